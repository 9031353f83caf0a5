-- A call that goes by the event rule runs in the simulation, and one that is refused is refused for a cause.
use Rattle.link_simulation.proofs.Common.{◌≡◌, ℕ, ◌<◌, ◌≤◌, ◌^◌, List, [], ◌∷◌, Some, refl, sym, ◌∙◌, subst, arith}
use Rattle.link_simulation.proofs.Common.{IfSome, filter, AllZip, Ordering, IsTotalOrder, Error, Message, SameMessage}
use Rattle.link_simulation.proofs.Common.{same_pair, CapsAlike, World, Completed, Course, goes, meets, last_moment}
use Rattle.link_simulation.proofs.Common.{IsSound, Call, moment_of, Runs, Faults, Planned, next_event, Obeys}
use Rattle.link_simulation.proofs.Common.{MayBeRefused, StandsFor, CoursesAlike, GoesByRule, IsRun}
use Rattle.link_simulation.specs.Rule.Simulated.{IsSimulated, IsNextInSimulation, KeepsRange, MeetsFault}
use Rattle.link_simulation.specs.Rule.Simulated.{IsRefusedInSimulation}
use Rattle.link_simulation.proofs.Simulation.AlikeMessages.{same_itself, pair_itself}
use Rattle.link_simulation.proofs.Rule.BeforeNext.{positive_flights}
use Rattle.link_simulation.proofs.Simulation.QuietInstants.{next_is_later}
use Rattle.link_simulation.proofs.Rule.NextEvent.{next_is_planned}
use Rattle.link_simulation.proofs.Simulation.OneRun.{runs_are_one}
use Rattle.link_simulation.proofs.Rule.Obeys.{obeys_alike}
use Rattle.link_simulation.proofs.Simulation.RefusalCauses.{refused_more}
use Rattle.link_simulation.proofs.Rule.Agreeing.{all_trans}
use Rattle.link_simulation.proofs.Rule.RepliesInRange.{obeys_in_range, refused_in_range}
use Rattle.link_simulation.proofs.Rule.SameStands.{stands_same, range_same}
use Rattle.link_simulation.proofs.Rule.Limit.{none_flies}

module _ {P : Type 0} (cmp : P → P → Ordering) (order : IsTotalOrder cmp) where
  -- ---- the worlds that a planned world stands for are sound

  pub none_waits : (ms ns : List (Message P))
      → ((m : Message P) → AllZip (SameMessage cmp) (filter (same_pair cmp m) ms) (filter (same_pair cmp m) ns))
      → ms ≡ [] → ns ≡ []
  none_waits ms [] same e = refl
  none_waits [] (n ∷ ns) same e = grind (arith, (pair_itself cmp order n))
  none_waits (m ∷ ms) (n ∷ ns) same e = cc

  caps_stand : (p : Planned P) (w : World P) → CapsAlike cmp p.caps w.caps → CapsAlike cmp w.caps w.caps
  caps_stand p w caps = record {
    egress = λ a b e. sym (caps.egress a a (same_itself cmp order a)) ∙ caps.egress a b e;
    ingress = λ a b e. sym (caps.ingress a a (same_itself cmp order a)) ∙ caps.ingress a b e;
    link = λ a b c d e f.
        sym (caps.link a a c c (same_itself cmp order a) (same_itself cmp order c)) ∙ caps.link a b c d e f;
  }

  pub sound_of_stands : (p : Planned P) (w : World P) → StandsFor cmp p w → IsSound cmp w
  sound_of_stands p w stands = record {
    caps = caps_stand p w stands.follows.tallies.caps;
    last_arrival = λ a b c d e f.
        sym (stands.follows.tallies.last_arrival a a c c (same_itself cmp order a) (same_itself cmp order c))
        ∙ stands.follows.tallies.last_arrival a b c d e f;
    positive = positive_flights cmp order w.moment p.sending w.sending stands.follows.tallies.sending;
    one_each = stands.follows.tallies.one_each;
    empty_at_first = grind (arith, none_flies, none_waits);
  }

  -- ---- a call that goes

  -- the moment of a call, which fits a word of 64 bits, is no later than the last one
  pub moment_in_time : (call : Call P) (now : ℕ) → moment_of call ≡ Some now → now < 2 ^ 64 → (t : ℕ)
      → moment_of call ≡ Some t → t ≤ last_moment
  moment_in_time call now at fits t is = let same : now ≡ t = cc in omega arith

  pub next_in_simulation : (p : Planned P) → IsNextInSimulation cmp p (next_event p)
  next_in_simulation p w stands = next_is_planned cmp order p w stands

  pub calls_simulated : (p q : Planned P) (call : Call P) (completions : List (Completed P))
      → ((t : ℕ) → moment_of call ≡ Some t → t ≤ last_moment) → GoesByRule cmp p call completions q
      → IsSimulated cmp p call completions q
  calls_simulated p q call completions in_time go w now called = grind (arith, obeys_alike, by_course)
    where
      later_next : (v : World P) → StandsFor cmp q v → v.moment ≡ now → IfSome (next_event q) (λ t. now < t)
      later_next v stands at =
          subst (λ (s : ℕ). IfSome (next_event q) (λ t. s < t)) at
          (next_is_later cmp order v (next_event q) (next_is_planned cmp order q v stands))

      never_faults : (ds : List (Completed P)) (v : World P) → Runs cmp w call now (goes ds v) → (fault : Error)
          → ¬ Faults cmp w call fault
      never_faults ds v runs fault (t, at, stops) =
          let same : t ≡ now = cc in
          let one = runs_are_one cmp order w call now (goes ds v) (meets fault) (sound_of_stands p w called.stands) runs
          (subst (λ (s : ℕ). Runs cmp w call s (meets fault)) same stops) in
          cc

      by_course : (c : Course (Completed P) (World P)) → Runs cmp w call now c
          → CoursesAlike cmp (λ r v. StandsFor cmp r v × (v.moment ≡ now)) (goes go.answers go.after) c
          → IsRun cmp w call now completions q
      by_course (goes ds v) runs alike =
          let stands : StandsFor cmp q v = stands_same cmp order go.after q v go.same_after alike.1.0 in
          record {
            answers = ds;
            after = v;
            runs = runs;
            same = all_trans cmp order completions go.answers ds go.same_answers alike.0;
            stands = stands;
            moment = alike.1.1;
            next = later_next v stands alike.1.1;
            no_fault = never_faults ds v runs;
          }
      by_course (meets fault) runs alike = absurd alike

  pub call_keeps_range : (p q : Planned P) (call : Call P) (completions : List (Completed P))
      → GoesByRule cmp p call completions q → KeepsRange cmp p call q
  call_keeps_range p q call completions go in_range = grind (arith, obeys_in_range, range_same)

  -- ---- a call that is refused

  fault_is_met : (p : Planned P) (call : Call P) (fault : Error) → ((t : ℕ) → moment_of call ≡ Some t → t ≤ last_moment)
      → Obeys cmp p call (meets fault) → MeetsFault cmp p call fault
  fault_is_met p call fault in_time obeys w now called = grind (arith, obeys_alike)

  pub refusals_simulated : (p : Planned P) (call : Call P) (why : Error)
      → ((t : ℕ) → moment_of call ≡ Some t → t ≤ last_moment) → MayBeRefused cmp p call why
      → IsRefusedInSimulation cmp p call why
  refusals_simulated p call why in_time may = search (refused_more, fault_is_met, refused_in_range)
