-- The fair rates of n flows are whole over their denominator.
use Rattle.fairness.proofs.Common.{◌≡◌, ℕ, ◌*◌, ◌<◌, ◌≤◌, List, get_or, ap, arith, eq_of_mul-eq-mul_right, Side}
use Rattle.fairness.proofs.Common.{IsFair, HaveUsersBelow, IsRateOf, AreFairRates, AreWholeOver, Rate, Unlimited}
use Rattle.fairness.proofs.Common.{Finite, common_steps, rules}
use Rattle.fairness.specs.Fairness.Exists.{HaveDistinctUsers}
use Rattle.fairness.specs.Refusals.FairRatesFit.{IsWholeOver}
use Rattle.fairness.proofs.Fairness.Denominators.{denominator_of}
use Rattle.fairness.proofs.Fairness.OneAllocation.{same_amounts}
use Rattle.fairness.proofs.Filling.FairPartsExist.{fair_parts}

same_worth : (num den per parts last other : ℕ) → 0 < per → num * per ≡ parts * den → parts * last ≡ other * per
    → num * last ≡ other * den
same_worth num den per parts last other some worth same =
    eq_of_mul-eq-mul_right per some (num * last) (other * den)
    (omega (arith, ap (λ n. n * last) worth, ap (λ n. n * den) same))

whole_rate : (sides : List Side) (per last : ℕ) (parts other : ℕ → ℕ)
    → IsFair sides per parts → IsFair sides last other → (flow : ℕ) (rate : Rate) → IsRateOf sides per parts flow rate
    → IsWholeOver last rate
whole_rate sides per last parts other fair fair' flow Unlimited rated = tt
whole_rate sides per last parts other fair fair' flow (Finite ratio) rated =
    grind (
      arith,
      common_steps,
      same_worth ratio.numerator ratio.denominator per (parts flow) last (other flow) fair.some_part rated.1
          (same_amounts sides per last parts other fair fair' flow rated.0),
      same_amounts sides per last parts other fair fair' flow rated.0,
    )

-- the fair rates of at most n flows are whole over the denominator of n
pub whole_rates : (n : ℕ) (sides : List Side) (flows : ℕ) (rates : List Rate)
    → flows ≤ n → HaveUsersBelow flows sides → HaveDistinctUsers sides → AreFairRates sides flows rates
    → AreWholeOver (denominator_of n) rates
whole_rates n sides flows rates le among distinct fair =
    let among_n : HaveUsersBelow n sides = search rules in
    let other = fair_parts n sides among_n distinct in
    λ flow d l.
    whole_rate sides fair.per (denominator_of n) fair.parts other.0 fair.fair other.1 flow (get_or rates flow d)
    (fair.rated flow d (omega (arith, l, fair.one_each)))
