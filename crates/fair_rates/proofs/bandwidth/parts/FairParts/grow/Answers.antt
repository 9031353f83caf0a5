use Rattle.fair_rates.proofs.Common.{ap, ◌∙◌, product}
use Rattle.fair_rates.proofs.Filling.Fractions.{product_push}
use Rattle.fairness.proofs.Filling.Frozen.{on_ok}
use Rattle.fair_rates.proofs.bandwidth.parts.FairParts.grow.Goals as goal

pub returns-clause-growth : goal.returns-clause-growth
returns-clause-growth c =
    on_ok c.multiply_each.result
    (ap product c.in_ok-push.ensures.items ∙ product_push c.args.self.now.growth.items c.args.factor)
