use Rattle.fairness.proofs.Common.{refl}
use Rattle.fairness.proofs.Numbers.Fits.{difference_worth, no_greater_is, none_iff}
use Rattle.fairness.proofs.ratio.Ratio.checked_sub.Goals as goal

pub returns-in_err-rest-clause-fits : goal.returns-in_err-rest-clause-fits
returns-in_err-rest-clause-fits c =
    let stands = no_greater_is c.args.self c.args.other _ _ _ c.in_ok-over.ensures.value in
    none_iff _ c.from_residual-in_err-rest.ensures (λ fits. c.in_err-rest.ensures (stands.1 fits.no_greater))

pub returns-clause-fits : goal.returns-clause-fits
returns-clause-fits c =
    let stands = no_greater_is c.args.self c.args.other _ _ _ c.in_ok-over.ensures.value in (
      λ s. record { common = c.in_ok-over.ensures.fits.0 refl; no_greater = stands.0 c.in_ok-rest.ensures.0 },
      λ fits. refl,
    )

pub returns-clause-value : goal.returns-clause-value
returns-clause-value c =
    difference_worth c.lowest.result c.args.self c.args.other _ _ _ _ c.in_ok-over.ensures.value c.in_ok-rest.ensures.1
    c.lowest.ensures
