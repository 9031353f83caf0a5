use Rattle.fair_routes.proofs.Common.{arith, common_steps}
use Rattle.fair_routes.proofs.Network.Users.{noted_at}
use Rattle.fair_routes.proofs.routes.sides.register_link.Goals as goal

pub returns-in_ok-push-clause-noted : goal.returns-in_ok-push-clause-noted
returns-in_ok-push-clause-noted c =
    noted_at c.args.users.now c.args.link c.args.flow c.index-users-link.result c.push.new.self (omega arith)
    c.index-users-link.is (grind (arith, common_steps, c.stands_last.ensures, c.if-not-stands_last.true, c.deref.ensures.value))
    (grind (arith, common_steps, c.in_ok-push.ensures.items, c.index-users-link.is))
