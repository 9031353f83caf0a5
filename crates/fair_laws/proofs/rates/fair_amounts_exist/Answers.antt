use Rattle.fair_laws.proofs.Common.{ℕ, subst, le_refl, IsFair, AreWholeOver}
use Rattle.fairness.proofs.Fairness.Denominators.{denominator_of, is_least_multiple, one_multiple, first_multiples}
use Rattle.fairness.proofs.Filling.FairPartsExist.{fair_parts}
use Rattle.fairness.proofs.Fairness.WholeRates.{whole_rates}
use Rattle.fair_laws.proofs.rates.fair_amounts_exist.Goals as goal

pub returns-clause-exist : goal.returns-clause-exist
returns-clause-exist c = λ n per is sides among distinct.
    subst (λ m. (parts : ℕ → ℕ) × IsFair sides m parts) (one_multiple n (denominator_of n) per (is_least_multiple n) is)
    (fair_parts n sides among distinct)

pub returns-clause-whole : goal.returns-clause-whole
returns-clause-whole c = λ n per is sides rates among distinct fair.
    subst (λ m. AreWholeOver m rates) (one_multiple n (denominator_of n) per (is_least_multiple n) is)
    (whole_rates n sides n rates (le_refl n) among distinct fair)

pub returns-clause-multiple : goal.returns-clause-multiple
returns-clause-multiple c = λ n. (denominator_of n, is_least_multiple n)

pub returns-clause-one : goal.returns-clause-one
returns-clause-one c = one_multiple

pub returns-clause-values : goal.returns-clause-values
returns-clause-values c = first_multiples
