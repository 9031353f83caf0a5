use Rattle.p2p_simulated_c.proofs.Common.{◌≡◌, map, take}
use Rattle.link_events.specs.Steps.Outgoing.{outgoing}
use Rattle.p2p_simulated_c.specs.Parcels.{message_at}
use Rattle.p2p_simulated_c.proofs.batch.messages_of.Given as goal

-- the messages so far
abbrev pub invariant-loop-parcel : goal.invariant-loop-parcel
invariant-loop-parcel l = map outgoing l.messages.items ≡ map (message_at l.bytes) (take l.parcel-index l.parcels)
