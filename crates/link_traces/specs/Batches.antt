-- Messages that lines send at one moment.
use Rattle.std.specs.Prelude.{◌≡◌, ℕ, List, ◌++◌, drop, map}
use Rattle.std.specs.List.{flat_map}
use Rattle.link_events.specs.declared.outgoing.Outgoing.{Outgoing}
use Rattle.link_scheduler.specs.declared.call.Call.{Call}
use Rattle.link_scheduler.specs.declared.call.Call.TheVariants as calls
use Rattle.link_traces.specs.declared.linkcheck.batch.Batch.{Batch}
use Rattle.link_traces.specs.Trace.{call_line}

-- the call that sends a message
abbrev pub call_to_send : ℕ → Outgoing ℕ ℕ → Call ℕ ℕ
call_to_send now m = calls.Enqueue now m.origin m.recipient m.channel m.message m.latency m.should_deliver

-- the calls of a batch
abbrev pub batch_calls : Batch → List (Call ℕ ℕ)
batch_calls b = map (call_to_send b.moment) b.messages.items

-- their lines
abbrev pub batch_lines : Batch → List ℕ
batch_lines b = flat_map call_line (batch_calls b)

-- the bytes begin with them, and go on after so many
abbrev pub IsFront : Batch → List ℕ → Type 0
IsFront b bytes = bytes ≡ batch_lines b ++ drop b.length bytes
