-- How a message and a completion in the code are read.
use Rattle.std.specs.Prelude.{ℕ, List, map}
use Rattle.std.specs.declared.alloc.Global.{Global}
use Rattle.std.specs.declared.sync.Arc.{Arc}
use Rattle.link_simulation.specs.Simulation.Messages.{Message}
use Rattle.link_simulation.specs.Simulation.World.{Completed, completion_of}
use Rattle.link_pairs.specs.declared.completion.Completion.{Completion}
use Rattle.link_pairs.specs.declared.completion.Ended.{Ended}
use Rattle.link_pairs.specs.declared.message.Message as code

-- a message in the code
abbrev pub message_of : {P : Type 0} → code.Message P → Message P
message_of m = record {
  origin = m.origin;
  recipient = m.recipient;
  channel = m.channel;
  bytes = m.bytes;
  latency = m.latency;
  should_deliver = m.should_deliver;
}

-- its ordered pair
abbrev pub pair_of : {P : Type 0} → code.Message P → P × P
pair_of m = (m.origin, m.recipient)

-- messages in the code
abbrev pub messages : {P : Type 0} → List (Arc (code.Message P) Global) → List (Message P)
messages ms = map (λ m. message_of m.value) ms

-- a completion as it is answered, where what it gives back stands for those bytes
abbrev pub completed_by : {P M : Type 0} → (M → List ℕ) → Completion P M → Completed P
completed_by bytes c = record {
  origin = c.origin;
  recipient = c.recipient;
  channel = c.channel;
  bytes = bytes c.message;
  done_at = c.done_at;
  deliver_at = c.deliver_at;
}

-- and where it gives back the bytes
abbrev pub completed_of : {P : Type 0} → Completion P (List ℕ) → Completed P
completed_of c = completed_by (λ bytes. bytes) c

-- a message that is done, as its completion
abbrev pub ended_of : {P : Type 0} → Ended P → Completed P
ended_of done = completion_of (message_of done.message.value) done.done_at done.deliver_at
