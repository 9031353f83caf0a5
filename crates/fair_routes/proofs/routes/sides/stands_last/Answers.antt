use Rattle.fair_routes.proofs.Common.{sym}
use Rattle.fair_routes.proofs.Network.Users.{ends_with_last}
use Rattle.fair_routes.proofs.routes.sides.stands_last.Goals as goal

pub returns-in-Some : goal.returns-in-Some
returns-in-Some c = sym (ends_with_last c.args.flow c.in-Some.last.now c.args.flows.now (sym c.in-Some.ensures.value))
