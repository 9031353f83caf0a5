-- The earlier of the planned finish and start is the next event; and advancing is a run of the call.
use Rattle.link_simulation.proofs.Common.{◌≡◌, ℕ, suc, ◌+◌, ◌<◌, ◌≤◌, List, [], Option, Some, refl, sym, ap, subst}
use Rattle.link_simulation.proofs.Common.{arith, IfSome, Ordering, IsTotalOrder, Completed, Course, IsQuiet, World}
use Rattle.link_simulation.proofs.Common.{and_then, goes, last_moment, meets, Runs, call_advance, Advances, Message}
use Rattle.link_simulation.proofs.Common.{IsLeastMoment, Planned, SomeReadyAt, next_event, CoursesAlike, StandsFor}
use Rattle.link_simulation.proofs.Common.{NextIs}
use Rattle.std.specs.Prelude.{◌≢◌}
use Rattle.std.proofs.lemmas.List.{append-nil}
use Rattle.link_simulation.proofs.Rule.BeforeNext.{later, follows_later, comes_at, nothing_comes, finish_is_next}
use Rattle.link_simulation.proofs.Simulation.InOrder.{HasIn, in_ready}
use Rattle.link_simulation.proofs.Rule.Advance.{advances_alike, earlier_start, start_is_later, gap, decide_start}

module _ {P : Type 0} (cmp : P → P → Ordering) (order : IsTotalOrder cmp) where
  start_is_next : (p : Planned P) (w : World P) → StandsFor cmp p w → (e : ℕ) → p.finish ≢ Some e
      → next_event p ≡ Some e → NextIs cmp w (Some e)
  start_is_next p w stands e not_finish next =
      let first = earlier_start cmp order p.finish p.start e next not_finish in
      let after : (e ≤ last_moment) × (w.moment < e) = start_is_later cmp order p w stands e first.0 in
      let steps : (k : ℕ) × (w.moment + suc k ≡ e) = gap cmp order w.moment e after.1 in
      let least = subst (λ (o : Option ℕ). IsLeastMoment (SomeReadyAt cmp p) o) first.0 stands.start in
      let before : IfSome (next_event p) (λ t. w.moment + steps.0 < t) =
      subst (λ (o : Option ℕ). IfSome o (λ t. w.moment + steps.0 < t)) (sym next) (omega (arith, steps.1)) in
      subst (λ (t : ℕ). NextIs cmp w (Some t)) steps.1
      (comes_at cmp order p w stands steps.0 (omega (arith, steps.1, after.0)) before (busy steps.0 steps.1 least.1))
    where
      busy : (k : ℕ) → w.moment + suc k ≡ e → SomeReadyAt cmp p e
          → ¬ IsQuiet cmp (w.moment + suc k) (later cmp order p w stands (suc k))
      busy k at some quiet =
          let there : SomeReadyAt cmp p (w.moment + suc k) = subst (λ (t : ℕ). SomeReadyAt cmp p t) (sym at) some in
          let has = in_ready cmp order (w.moment + suc k) p (later cmp order p w stands (suc k)) there.0
          (follows_later cmp order p w stands (suc k)).tallies there.1 there.2 in
          subst (λ (ms : List (Message P)). HasIn cmp order ms there.0) quiet.none_ready has

  -- the next event is what is planned
  pub next_is_planned : (p : Planned P) (w : World P) → StandsFor cmp p w → NextIs cmp w (next_event p)
  next_is_planned p w stands = grind (arith, finish_is_next, start_is_next, nothing_comes, decide_start)

  ended : (c : Course (Completed P) (World P)) → c ≡ and_then c (λ v. goes [] v)
  ended (goes cs v) = ap (λ (ds : List (Completed P)). goes ds v) (sym (append-nil cs))
  ended (meets fault) = refl

  -- advancing the planned world event by event answers what the call answers in the world
  pub advance_runs : (p : Planned P) (w : World P) (now n : ℕ) (course : Course (Completed P) (Planned P))
      → StandsFor cmp p w → w.moment ≤ now → now ≤ last_moment → Advances cmp now p n course
      → (c : Course (Completed P) (World P)) × Runs cmp w (call_advance now) now c
      × CoursesAlike cmp (λ q v. StandsFor cmp q v × (v.moment ≡ now)) course c
  advance_runs p w now n course stands le within events =
      grind (arith, (advances_alike cmp order events within), (ended ((advances_alike cmp order events within).0 w stands le).0))
