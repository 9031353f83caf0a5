-- Where a fair rate is no fraction of 128 bits, no rates that are such fractions are fair.
use Rattle.fair_laws.proofs.Common.{ℕ, ◌<◌, List, All, arith, Ordering, IsTotalOrder}
use Rattle.fair_laws.proofs.Common.{All-contains, HasLargeRate, parts_over, Side, HaveUsersBelow, ReducedFits}
use Rattle.fair_laws.proofs.Common.{IsRateOf, AreFairRates, Rate, Unlimited, Finite, rules}
use Rattle.std.proofs.lemmas.List.Elements.{All-get_or}
use Rattle.fairness.specs.Refusals.FairRatesFit.{IsFraction}
use Rattle.fairness.specs.Refusals.TooLarge.{TooLargeHasNoRates}
use Rattle.fairness.proofs.Fairness.OneAllocation.{same_amounts}
use Rattle.fairness.proofs.Numbers.Ratio.{worth_is_reduced}
use Rattle.fairness.proofs.Refusals.Fitting.{fits_alike}
use Rattle.fair_laws.proofs.Fairness.ExistUnderCaps.{users_below}

large_is_unfair : (sides : List Side) (flows : ℕ) (rates : List Rate) → HaveUsersBelow flows sides → HasLargeRate sides
    → All IsFraction rates → ¬ AreFairRates sides flows rates
large_is_unfair sides flows rates among large small fair =
    by_rate _ (fair.rated large.flow Unlimited below)
    (All-get_or IsFraction rates large.flow Unlimited (omega (arith, below, fair.one_each)) small)
  where
    below : large.flow < flows
    below =
        All-contains (λ user. user < flows) large.limited.0.users large.flow (All-contains
        (λ (side : Side). All (λ user. user < flows) side.users) sides large.limited.0 among large.limited.1.listed)
        large.limited.1.used

    by_rate : (rate : Rate) → IsRateOf sides fair.per fair.parts large.flow rate → IsFraction rate → ⊥
    by_rate Unlimited none fraction = none large.limited
    by_rate (Finite ratio) (limited, worth) fraction =
        let is = worth_is_reduced ratio (parts_over fair.per (fair.parts large.flow)) fair.fair.some_part worth in
        let fits : ReducedFits (parts_over fair.per (fair.parts large.flow)) = search rules in
        large.large (fits_alike (large.parts large.flow) large.per (fair.parts large.flow) fair.per large.fair.some_part
        fair.fair.some_part (same_amounts sides large.per fair.per large.parts fair.parts large.fair fair.fair
        large.flow large.limited) fits)

pub too_large_has_no_rates : {P : Type 0} (cmp : P → P → Ordering) → IsTotalOrder cmp → TooLargeHasNoRates cmp
too_large_has_no_rates cmp order caps flows rates of large small fair =
    large_is_unfair _ _ rates (users_below cmp order caps flows of) large.large_rate small fair
