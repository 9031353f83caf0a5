-- Calls in their turn, told by what is planned and in the simulation.
use Rattle.p2p_simulated_c.proofs.Common.{◌≡◌, ℕ, ◌<◌, ◌≤◌, Bool, true, Some, inl, inr, map, refl, sym, subst, ◌∙◌}
use Rattle.p2p_simulated_c.proofs.Common.{arith, nat_cmp, planned_of, Call, call_enqueue_all, moment_of, Error, Opened}
use Rattle.std.proofs.Common.{◌↔◌, Option}
use Rattle.std.specs.Prelude.{IfSome, MatchOption}
use Rattle.std.proofs.lemmas.Cmp.{nat_cmp_total}
use Rattle.link_scheduler.specs.Calls.State.{IsNextOf}
use Rattle.link_simulation.specs.Rule.Planned.{next_event}
use Rattle.link_simulation.specs.Simulation.Calls.{call_limit, call_limit_link, call_enqueue}
use Rattle.link_simulation.specs.Simulation.Calls.{call_advance, call_next, IsInTurn, IsBeforeNext}
use Rattle.link_simulation.specs.Rule.Simulated.{IsRun}
use Rattle.link_simulation.specs.Rule.StandsFor.{StandsFor}
use Rattle.link_simulation.specs.Simulation.World.{World, new_world}
use Rattle.link_simulation.proofs.Laws.TurnByNext.{turn_by_next}
use Rattle.link_pairs.specs.Pairs.Messages.{completed_of}
use Rattle.p2p_simulated_c.specs.Asked.{Made, Refused}
use Rattle.p2p_simulated_c.specs.Opening.{IsOpened}
use Rattle.p2p_simulated_c.specs.Turns.{is_act, IsTold, StandsAtLast, TellsTurn}

-- a call in its turn comes no earlier than the world
no_earlier : (w : World ℕ) (call : Call ℕ) (now : ℕ) → moment_of call ≡ Some now → IsInTurn nat_cmp w call
    → w.moment ≤ now
no_earlier w (call_limit t peer egress ingress) now is turn =
    let same : now ≡ t = cc in let le : w.moment ≤ t = turn.0 in omega arith
no_earlier w (call_limit_link t origin recipient cap) now is turn =
    let same : now ≡ t = cc in let le : w.moment ≤ t = turn.0 in omega arith
no_earlier w (call_enqueue t m) now is turn =
    let same : now ≡ t = cc in let le : w.moment ≤ t = turn.0 in omega arith
no_earlier w (call_enqueue_all t ms) now is turn =
    let same : now ≡ t = cc in let le : w.moment ≤ t = turn.0 in omega arith
no_earlier w (call_advance t) now is turn = let same : now ≡ t = cc in let le : w.moment ≤ t = turn in omega arith
no_earlier w call_next now is turn = cc

-- and, if it acts, before the next event
before_due : (s : Opened) (w : World ℕ) (call : Call ℕ) (now due : ℕ) → IsNextOf s.state (Some due)
    → StandsAtLast s w → moment_of call ≡ Some now → is_act call ≡ true → IsInTurn nat_cmp w call → now < due
before_due s w call now due next stands is acts turn = by_call call is acts turn
  where
    earlier : (t : ℕ) → IsBeforeNext nat_cmp t w → t < due
    earlier t before = before (Some due) (next.simulated w stands.stands)

    by_call : (c : Call ℕ) → moment_of c ≡ Some now → is_act c ≡ true → IsInTurn nat_cmp w c → now < due
    by_call (call_limit t peer egress ingress) at act in_turn =
        let same : now ≡ t = cc in let lt : t < due = earlier t in_turn.1 in omega arith
    by_call (call_limit_link t origin recipient cap) at act in_turn =
        let same : now ≡ t = cc in let lt : t < due = earlier t in_turn.1 in omega arith
    by_call (call_enqueue t m) at act in_turn =
        let same : now ≡ t = cc in let lt : t < due = earlier t in_turn.1 in omega arith
    by_call (call_enqueue_all t ms) at act in_turn =
        let same : now ≡ t = cc in let lt : t < due = earlier t in_turn.1 in omega arith
    by_call (call_advance t) at act in_turn = cc
    by_call call_next at act in_turn = cc

-- a call no earlier than the last one, and before the next event if it acts, is in its turn
in_turn : (s : Opened) (w : World ℕ) (call : Call ℕ) (now : ℕ) → StandsAtLast s w → moment_of call ≡ Some now
    → s.last ≤ now → (is_act call ≡ true → IfSome (next_event (planned_of s.state)) (λ due. now < due))
    → IsInTurn nat_cmp w call
in_turn s w call now stands is le before = by_call call is before
  where
    no_later : w.moment ≤ now
    no_later = let at : w.moment ≡ s.last = stands.moment in omega arith

    acting : (c : Call ℕ) → moment_of c ≡ Some now
        → IfSome (next_event (planned_of s.state)) (λ due. now < due) → IsInTurn nat_cmp w c
    acting c at before_it =
        turn_by_next nat_cmp nat_cmp_total (planned_of s.state) w c now stands.stands at no_later before_it

    by_call : (c : Call ℕ) → moment_of c ≡ Some now
        → (is_act c ≡ true → IfSome (next_event (planned_of s.state)) (λ due. now < due)) → IsInTurn nat_cmp w c
    by_call (call_limit t peer egress ingress) at if_acts =
        acting (call_limit t peer egress ingress) at (if_acts refl)
    by_call (call_limit_link t origin recipient cap) at if_acts =
        acting (call_limit_link t origin recipient cap) at (if_acts refl)
    by_call (call_enqueue t m) at if_acts = acting (call_enqueue t m) at (if_acts refl)
    by_call (call_enqueue_all t ms) at if_acts = acting (call_enqueue_all t ms) at (if_acts refl)
    by_call (call_advance t) at if_acts = let same : now ≡ t = cc in let le_now = no_later in omega arith
    by_call call_next at if_acts = tt

-- what is told of a call is what it is in the simulation
is_told : (s : Opened) (next : Option ℕ) (now : ℕ) (acts : Bool) (status at : ℕ) (w : World ℕ) (call : Call ℕ)
    → IsNextOf s.state next → StandsAtLast s w → moment_of call ≡ Some now → is_act call ≡ acts
    → IsTold s.last next now acts status at → (status ≡ 0) ↔ IsInTurn nat_cmp w call
is_told s next now acts status at w call is stands moment same (inl (zero, here, le, before)) = (
  λ z. in_turn s w call now stands moment le
      (λ act. subst (λ o. IfSome o (λ due. now < due)) is.planned (before (sym same ∙ act))),
  λ turn. zero,
)
is_told s next now acts status at w call is stands moment same (inr (inl (six, here, lt))) = (
  λ z. let f : ⊥ = omega (arith, z, six) in absurd f,
  λ turn. let le : w.moment ≤ now = no_earlier w call now moment turn in
      let there : w.moment ≡ s.last = stands.moment in omega arith,
)
is_told s next now acts status at w call is stands moment same (inr (inr (seven, due, le, before, act))) = (
  λ z. let f : ⊥ = omega (arith, z, seven) in absurd f,
  λ turn. let lt : now < at = before_due s w call now at (subst (λ o. IsNextOf s.state o) due is) stands moment
      (same ∙ act) turn in omega arith,
)

pub tells : (s : Opened) (next : Option ℕ) (now : ℕ) (acts : Bool) (status at : ℕ) → IsNextOf s.state next
    → IsTold s.last next now acts status at → TellsTurn s now acts status at
tells s next now acts status at is told = record {
  by_rule = subst (λ o. IsTold s.last o now acts status at) is.planned told;
  simulated = λ w call stands moment same. is_told s next now acts status at w call is stands moment same told;
}

-- ---- from call to call

-- at the start it is the new world
pub opened_at_last : (first_id : ℕ) (s : Opened) → IsOpened first_id 0 (Some s) → StandsAtLast s (new_world first_id)
opened_at_last first_id s (inl (made, there, same, is_new, none, last)) =
    subst (λ (o : Option Opened). MatchOption o ⊥ (λ (x : Opened). StandsAtLast x (new_world first_id))) (sym same)
    (record { stands = is_new.stands; moment = sym last })
opened_at_last first_id s (inr (made, there)) = let f : ⊥ = omega (arith, made) in absurd f

-- a call in its turn leads from world to world
pub made_at_last : (old new : Opened) (w : World ℕ) (call : Call ℕ) (now count at : ℕ) (acts : Bool)
    → StandsAtLast old w → moment_of call ≡ Some now → is_act call ≡ acts → TellsTurn old now acts 0 at
    → Made call count old new
    → (run : IsRun nat_cmp w call now (map completed_of new.completed.items) (planned_of new.state))
    × StandsAtLast new run.after
made_at_last old new w call now count at acts stands moment same told made =
    let turn : IsInTurn nat_cmp w call = (told.simulated w call stands moment same).0 refl in
    let run : IsRun nat_cmp w call now (map completed_of new.completed.items) (planned_of new.state) =
    made.made.simulated w now (record { stands = stands.stands; moment = moment; turn = turn }) in
    let last : Some new.last ≡ Some now = sym made.moment ∙ moment in
    (run, record { stands = run.stands; moment = let here : now ≡ new.last = cc in run.moment ∙ here })

-- and one that is refused leaves all as it was
pub refused_at_last : (old new : Opened) (w : World ℕ) (call : Call ℕ) (why : Error) (count : ℕ)
    → StandsAtLast old w → Refused call why count old new → StandsAtLast new w
refused_at_last old new w call why count stands refused = record {
  stands = subst (λ p. StandsFor nat_cmp p w) (sym refused.unchanged) stands.stands;
  moment = stands.moment ∙ sym refused.moment;
}
