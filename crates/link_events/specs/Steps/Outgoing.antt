-- The messages that are to be sent.
use Rattle.std.specs.Prelude.{ℕ, Bool, List}
use Rattle.link_simulation.specs.Simulation.Messages.{Message}
use Rattle.link_events.specs.declared.outgoing.Outgoing.{Outgoing}

-- the message of an `enqueue`
abbrev pub sent : {P : Type 0} → P → P → ℕ → List ℕ → ℕ → Bool → Message P
sent origin recipient channel bytes latency should_deliver =
    record {
      origin = origin;
      recipient = recipient;
      channel = channel;
      bytes = bytes;
      latency = latency;
      should_deliver = should_deliver;
    }

-- a message to send, where what it has stands for those bytes
abbrev pub outgoing_by : {P M : Type 0} → (M → List ℕ) → Outgoing P M → Message P
outgoing_by bytes m = sent m.origin m.recipient m.channel (bytes m.message) m.latency m.should_deliver

-- and where it has the bytes
abbrev pub outgoing : {P : Type 0} → Outgoing P (List ℕ) → Message P
outgoing m = outgoing_by (λ bytes. bytes) m
