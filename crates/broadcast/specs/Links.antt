-- Links between peers, and the messages that go over them.
use Rattle.std.specs.Prelude.{◌≡◌, ◌≢◌, ℕ, ◌≤◌, ◌<◌, List, length, true}
use Rattle.link_simulation.specs.Simulation.Messages.{Message}
use Rattle.link_events.specs.Steps.Outgoing.{sent, outgoing}
use Rattle.link_events.specs.declared.outgoing.Outgoing.{Outgoing}
use Rattle.broadcast.specs.declared.link.Link.{Link}

-- from one to another of so many peers, in 1 to 200 milliseconds
pub record IsLinkOf (peers : ℕ) (link : Link) : Type 0 where
  pub origin : link.origin < peers
  pub recipient : link.recipient < peers
  pub apart : link.recipient ≢ link.origin
  pub least : 1000000 ≤ link.latency
  pub most : link.latency ≤ 200000000

-- the message with those bytes that goes over the link
abbrev pub message_over : Link → ℕ → List ℕ → Message ℕ
message_over link channel bytes = sent link.origin link.recipient channel bytes link.latency true

-- a message of 100 to 299 bytes goes over the link
pub record IsVoteOver (channel : ℕ) (link : Link) (vote : Outgoing ℕ (List ℕ)) : Type 0 where
  pub over : outgoing vote ≡ message_over link channel vote.message
  pub least : 100 ≤ length vote.message
  pub most : length vote.message ≤ 299
