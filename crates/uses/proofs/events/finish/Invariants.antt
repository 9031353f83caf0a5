use Rattle.std.proofs.Common.{[], map}
use Rattle.p2p_simulated.specs.Laws.Conserved.{IsConserved}
use Rattle.p2p_simulated.specs.Pairs.Messages.{completed_of}
use Rattle.p2p_simulated.specs.Laws.MostEvents.{most_events}
use Rattle.p2p_simulated.specs.Calls.State.{planned_of}
use Rattle.uses.proofs.events.finish.Given as goal

-- no message is lost so far
abbrev pub invariant-loop-now : goal.invariant-loop-now
invariant-loop-now g l =
    ∥ IsConserved g.P.Ord.cmp (planned_of l.initial.state) [] (map completed_of l.completions.items)
    (planned_of l.state) ∥₁

-- each event leaves fewer that may come
abbrev pub decreases-loop-now : goal.decreases-loop-now
decreases-loop-now g l = most_events (planned_of l.state)
