use Rattle.fair_rates.proofs.Common.{◌≡◌, length, inl, inr, subst, sym, ap, ◌∙◌, arith, common_steps}
use Rattle.fair_rates.proofs.Common.{HasDifferentRates, last_rate}
use Rattle.fairness.proofs.Filling.Frozen.{if_err}
use Rattle.fair_rates.proofs.Filling.Rates.{rates_are_fair, rates_are_different, large_rate}
use Rattle.fair_rates.proofs.bandwidth.rates_on.Goals as goal

pub returns-in_err-rates-clause-refused : goal.returns-in_err-rates-clause-refused
returns-in_err-rates-clause-refused g c =
    if_err _ _ c.from_residual-in_err-rates.result c.from_residual-in_err-rates.ensures.1
    (λ e is. elim c.in_err-rates.ensures.refused [
      | inl memory ↦ inl (is ∙ memory)
      | inr large ↦ inr (is ∙ large.0, large_rate _ _ _ c.in_ok-found.ensures large.1)
    ])

pub returns-clause-counted : goal.returns-clause-counted
returns-clause-counted g c =
    let found = c.in_ok-found.found in
    let filled = c.in_ok-found.ensures in
    let rates = c.in_ok-rates.ensures.rates in
    let len : c.len.result ≡ length found.levels.items = grind (arith, common_steps, c.len.ensures) in
    record {
      rates = c.in_ok-rates.rates.items;
      fair = rates_are_fair _ _ _ _ filled rates;
      by_id = λ id. c.in_ok-by_id.ensures.by_id id ∙ ap (last_rate id c.args.flows.now) c.deref.ensures.value;
      different =
          subst (HasDifferentRates c.in_ok-rates.rates.items) (sym len) (rates_are_different _ _ _ _ filled rates);
      few = omega (arith, len, filled.few);
    }
