-- The messages of a list that is sent by one call.
use Rattle.std.specs.Prelude.{ℕ, ◌-◌, ◌++◌, List, length, take, drop, replicate}
use Rattle.link_events.specs.Steps.Outgoing.{sent}
use Rattle.link_simulation.specs.Simulation.Messages.{Message}
use Rattle.p2p_simulated_c.specs.Records.{is_set}
use Rattle.p2p_simulated_c.specs.declared.records.Parcel.{Parcel}

-- as many bytes as are wanted, from one of these on, and zeros where there are too few
abbrev pub bytes_at : List ℕ → (from wanted : ℕ) → List ℕ
bytes_at bytes from wanted =
    take wanted (drop from bytes) ++ replicate (wanted - length (drop from bytes)) 0

-- the message of a record, which has its part of the bytes
abbrev pub message_at : List ℕ → Parcel → Message ℕ
message_at bytes p =
    sent p.origin p.recipient p.channel (bytes_at bytes p.from p.length) p.latency (is_set p.should_deliver)
