use Rattle.link_simulation.proofs.Common.{arith, ◌≡◌, ℕ, refl, subst, nat_cmp, nat_cmp_total, Error, OutOfMemory}
use Rattle.link_simulation.proofs.Common.{MomentTooLate, FlowIdsUsedUp, meets, new_world, Call, call_enqueue, Runs}
use Rattle.link_simulation.proofs.Common.{new_planned, Faults, IsCalled}
use Rattle.link_laws.proofs.Examples.ComputedReplies.{evenly, runs_so}
use Rattle.link_laws.proofs.Examples.ComputedDifferences.{in_turn}
use Rattle.link_simulation.proofs.Rule.Limit.{new_stands}
use Rattle.link_laws.proofs.Rule.NewInRange.{advance_in_range}
use Rattle.link_simulation.proofs.Simulation.OneRun.{runs_are_one}
use Rattle.link_simulation.proofs.Simulation.Sound.{new_world_sound}
use Rattle.link_laws.proofs.model.meanings.a_refusal_without_a_cause_is_told.Goals as goal
use Rattle.link_laws.specs.Examples.Rows.{message}

pub returns-clause-number : goal.returns-clause-number
returns-clause-number c h = h.cause

pub returns-clause-moment : goal.returns-clause-moment
returns-clause-moment c h = let clash : MomentTooLate ≡ OutOfMemory = h.in_range advance_in_range in cc

pub returns-clause-id : goal.returns-clause-id
returns-clause-id c h = let clash : FlowIdsUsedUp ≡ OutOfMemory = h.in_range advance_in_range in cc

-- a message that arrives at 2^63, enqueued in the new world
abbrev in_time : Call ℕ
in_time = call_enqueue 0 (message 1 2 1 9_223_372_036_854_775_808)

called : IsCalled nat_cmp (new_planned 0) in_time 0 (new_world 0)
called = grind (arith, new_stands, nat_cmp_total, in_turn, new_world_sound)

no_fault : (fault : Error) → ¬ Faults nat_cmp (new_world 0) in_time fault
no_fault fault (now, at, runs) =
    let here : now ≡ 0 = cc in
    let one = runs_are_one nat_cmp nat_cmp_total (new_world 0) in_time 0 _ (meets fault)
    (new_world_sound nat_cmp nat_cmp_total 0)
    (runs_so nat_cmp nat_cmp_total (evenly 1_000_000_000) (new_world 0) in_time 0 refl)
    (subst (λ (t : ℕ). Runs nat_cmp (new_world 0) in_time t (meets fault)) here runs) in
    cc

pub returns-clause-moment_outside : goal.returns-clause-moment_outside
returns-clause-moment_outside c h = no_fault MomentTooLate (h.cause (new_world 0) 0 called)

pub returns-clause-id_outside : goal.returns-clause-id_outside
returns-clause-id_outside c h = no_fault FlowIdsUsedUp (h.cause (new_world 0) 0 called)
