-- The range, in which a call is refused for memory alone. A moment and a latency in it are together no later than the
-- last moment.
use Rattle.std.specs.Prelude.{◌+◌, ◌<◌, ◌^◌, List, [], ◌∷◌, length, All, IfSome}
use Rattle.link_simulation.specs.Simulation.Calls.{Call, moment_of}
use Rattle.link_simulation.specs.Laws.PairCompletions.{enqueued}
use Rattle.link_simulation.specs.Rule.Planned.{Planned}

-- calls with moments and latencies below 2^63, and with fewer than 2^64 messages
pub record AreInRange {P : Type 0} (calls : List (Call P)) : Type 0 where
  pub moments : All (λ call. IfSome (moment_of call) (λ now. now < 2 ^ 63)) calls
  pub latencies : All (λ m. m.latency < 2 ^ 63) (enqueued calls)
  pub messages : length (enqueued calls) < 2 ^ 64

-- a planned world of such messages, with a flow id for each that waits
pub record IsInRange {P : Type 0} (p : Planned P) : Type 0 where
  pub sending : All (λ f. f.message.latency < 2 ^ 63) p.sending
  pub waiting : All (λ m. m.latency < 2 ^ 63) p.waiting
  pub ids : p.next_id + length p.waiting < 2 ^ 64

-- the planned world is in the range, and so is the call, its message counted
pub record IsCallInRange {P : Type 0} (p : Planned P) (call : Call P) : Type 0 where
  pub planned : IsInRange p
  pub call_itself : AreInRange (call ∷ [])
  pub messages : p.next_id + length p.waiting + length (enqueued (call ∷ [])) < 2 ^ 64
