use Rattle.std.proofs.Common.{[], map, sym, ap, ◌∙◌, subst}
use Rattle.std.proofs.Math.Logic.{∥∥₁_map₂}
use Rattle.std.proofs.lemmas.List.{map-append}
use Rattle.p2p_simulated.specs.Laws.Conserved.{IsConserved}
use Rattle.p2p_simulated.specs.Pairs.Messages.{completed_of}
use Rattle.p2p_simulated.specs.Calls.State.{planned_of}
use Rattle.uses.proofs.events.finish.Goals as goal

-- the law of the measure, at the state before the event and at the one after it
pub loop-now-smaller : goal.loop-now-smaller
loop-now-smaller g c =
    c.events_end.ensures.falls (planned_of c.loop-now.state) (planned_of c.advance.new.self) c.in-Some.now
    (map completed_of c.in_ok-done.done.items) c.loop-now.state.right (sym c.in-Some.ensures.next.planned)
    c.in_ok-done.ensures.made.by_rule

-- at first nothing is done
pub loop-now-init : goal.loop-now-init
loop-now-init g c =
    ∣ subst (λ cs. IsConserved g.P.Ord.cmp (planned_of c.args.state.now) [] cs (planned_of c.args.state.now))
    (ap (map completed_of) (sym c.new-completions.ensures.items))
    (c.calls_lose_no_message.ensures.none (planned_of c.args.state.now)) ∣₁

-- and one event after another loses nothing
pub loop-now-preserved : goal.loop-now-preserved
loop-now-preserved g c = ∥∥₁_map₂ c.loop-now.invariant c.in_ok-done.ensures.made.conserved (λ before one.
    let more =
    ap (map completed_of) c.in_ok-append.ensures.items
    ∙ map-append completed_of c.loop-now.completions.items c.in_ok-done.done.items in
    subst (λ cs. IsConserved g.P.Ord.cmp (planned_of c.args.state.now) [] cs (planned_of c.advance.new.self)) (sym more)
    (c.calls_lose_no_message.ensures.on (planned_of c.args.state.now) (planned_of c.loop-now.state)
    (planned_of c.advance.new.self) [] []
    (map completed_of c.loop-now.completions.items) (map completed_of c.in_ok-done.done.items) before one))
