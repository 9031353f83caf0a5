use Rattle.std.proofs.Common.{◌≤◌, refl, arith}
use Rattle.uses.proofs.worlds.at_the_first_event.Goals as goal

-- nothing has happened
pub returns-in_default : goal.returns-in_default
returns-in_default g c = record { stands = c.in_ok-state.ensures.stands }

-- an advance is in turn from the moment of the world on
pub returns : goal.returns
returns g c =
    let at = c.in_ok-state.ensures.stands in
    let turn : at.world.moment ≤ c.in-Some.now = omega (arith, at.moment) in
    let run = c.in_ok-advance.ensures.made.simulated at.world c.in-Some.now (record { stands = at.stands; moment = refl; turn = turn }) in
    record { stands = record { world = run.after; stands = run.stands; moment = run.moment } }
