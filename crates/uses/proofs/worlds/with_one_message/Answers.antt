use Rattle.std.proofs.Common.{ℕ, Some, None, true, refl}
use Rattle.std.specs.Ordering.{nat_cmp}
use Rattle.p2p_simulated.specs.Rule.Simulated.{IsCalled}
use Rattle.p2p_simulated.specs.Calls.State.{planned_of, sent}
use Rattle.p2p_simulated.specs.Simulation.World.{new_world}
use Rattle.p2p_simulated.specs.Simulation.Calls.{Call, call_limit, call_enqueue}
use Rattle.uses.proofs.worlds.with_one_message.Goals as goal

-- the first call comes before any event, and the second at the moment of the first
pub returns : goal.returns
returns g c =
    let new = c.with_payload-state.ensures.new in
    let limit : Call ℕ = call_limit 0 1 (Some c.args.cap) None in
    let enqueue : Call ℕ = call_enqueue 0 (sent 1 2 0 (g.M.Payload.bytes c.args.message) 0 true) in
    let first : IsCalled nat_cmp (planned_of c.with_payload-state.result) limit 0 (new_world 0) =
    c.calls_before_the_next_event_are_in_turn.ensures.first _ 0 0 limit new.planned new.stands refl in
    let run = c.in_ok-limit.ensures.made.simulated (new_world 0) 0 first in
    let second = c.calls_before_the_next_event_are_in_turn.ensures.at_once (new_world 0) _ limit enqueue 0 _ refl run in
    let then = c.in_ok-enqueue.ensures.made.simulated run.after 0 second in
    record { stands = record { world = then.after; stands = then.stands; moment = then.moment } }
