use Rattle.fairness.proofs.Numbers.Fits.{sum_worth}
use Rattle.fairness.proofs.ratio.Ratio.checked_add.Goals as goal

pub returns-clause-value : goal.returns-clause-value
returns-clause-value c =
    sum_worth c.lowest.result c.args.self c.args.other _ _ _ _ c.in_ok-over.ensures.value c.in_ok-sum.ensures.1
    c.lowest.ensures
