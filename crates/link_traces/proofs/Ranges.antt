-- What follows of calls whose numbers are in range.
use Rattle.link_traces.proofs.Common.{◌≡◌, ℕ, ◌<◌, ◌≤◌, List, [], ◌∷◌, map, Some, All, arith, world_call}
use Rattle.link_traces.proofs.Common.{IsCallOfScriptInRange, moment_of}
use Rattle.std.proofs.Common.{◌^◌}
use Rattle.std.proofs.lemmas.List.Elements.{All-head, All-tail}
use Rattle.link_scheduler.specs.declared.call.Call.{Call}
use Rattle.link_scheduler.specs.declared.call.Call.TheVariants as calls
use Rattle.link_simulation.specs.Laws.Isolation.{InTime}
use Rattle.link_simulation.specs.Simulation.World.{last_moment}

some_is : (m n : ℕ) → Some m ≡ Some n → m ≡ n
some_is m n is = cc

in_time : (m now : ℕ) → m < 2 ^ 64 → Some m ≡ Some now → now ≤ last_moment
in_time m now low is = let same : m ≡ now = some_is m now is in omega (arith, low, same)

-- the moment of a call in range is one that there is
comes_in_time : (call : Call ℕ ℕ) → IsCallOfScriptInRange call → (now : ℕ) → moment_of (world_call call) ≡ Some now
    → now ≤ last_moment
comes_in_time (calls.Limit m peer egress ingress) range now is = in_time m now range.0 is
comes_in_time (calls.LimitLink m origin recipient cap) range now is = in_time m now range.0 is
comes_in_time (calls.Enqueue m origin recipient channel length latency should_deliver) range now is =
    in_time m now range.0 is
comes_in_time (calls.EnqueueAll m messages) range now is = absurd range
comes_in_time (calls.Advance m) range now is = in_time m now range is
comes_in_time calls.Next range now is = cc

-- and so are those of a list of calls
pub come_in_time : (calls : List (Call ℕ ℕ)) → All IsCallOfScriptInRange calls → InTime (map world_call calls)
come_in_time [] range = tt
come_in_time (call ∷ calls) range = (
  comes_in_time call (All-head IsCallOfScriptInRange call calls range),
  come_in_time calls (All-tail IsCallOfScriptInRange call calls range),
)
