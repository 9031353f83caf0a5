use Rattle.fair_routes.proofs.Common.{ap, ◌∙◌, product}
use Rattle.fair_rates.proofs.Filling.Fractions.{product_push}
use Rattle.fairness.proofs.Filling.Frozen.{on_ok}
use Rattle.fair_routes.proofs.Network.Rising.{multiplied_once}
use Rattle.fair_routes.proofs.routes.weighted.rising.Rising.grow.Goals as goal

pub returns-then-factor-eq1-clause-parts : goal.returns-then-factor-eq1-clause-parts
returns-then-factor-eq1-clause-parts c = multiplied_once c.args.factor c.if-factor-eq1.true c.args.self.now.parts.items

pub returns-clause-growth : goal.returns-clause-growth
returns-clause-growth c =
    on_ok c.multiply_each.result
    (ap product c.in_ok-push.ensures.items ∙ product_push c.args.self.now.growth.items c.args.factor)
