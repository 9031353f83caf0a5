-- How what a call does at its moment is read.
use Rattle.std.specs.Prelude.{ℕ, List, map}
use Rattle.link_simulation.specs.Simulation.Calls.{Call, call_limit, call_limit_link, call_enqueue, call_enqueue_all}
use Rattle.link_simulation.specs.Simulation.Calls.{call_advance}
use Rattle.link_events.specs.declared.change.Change.{Change}
use Rattle.link_events.specs.declared.change.Change.TheVariants.{Limit, LimitLink, Enqueue, EnqueueAll, Advance}
use Rattle.link_events.specs.Steps.Outgoing.{outgoing_by}

-- a change at a moment as the call that makes it, where what it has of messages stands for those bytes
abbrev pub call_at : {P M : Type 0} → (M → List ℕ) → ℕ → Change P M → Call P
call_at bytes now (Limit peer egress ingress) = call_limit now peer.now egress ingress
call_at bytes now (LimitLink origin recipient cap) = call_limit_link now origin.now recipient.now cap
call_at bytes now (Enqueue message) = call_enqueue now (outgoing_by bytes message)
call_at bytes now (EnqueueAll messages) = call_enqueue_all now (map (outgoing_by bytes) messages.items)
call_at bytes now Advance = call_advance now
