-- Where fair rates fit, each of them is a fraction of 128 bits.
use Rattle.fairness.proofs.Common.{◌≡◌, ℕ, ◌*◌, ◌^◌, ◌<◌, ◌≤◌, inl, inr, List, sym, ap, subst, arith, cases_lt}
use Rattle.fairness.proofs.Common.{All-contains, get_or-le-sum_by, parts_over, reduced, Side, HaveUsersBelow}
use Rattle.fairness.proofs.Common.{ReducedFits, reduced_same, FairRatesFit, HasLargeRate, rules}
use Rattle.std.proofs.Common.{lit<}
use Rattle.std.proofs.Math.Nat.{lt_of_le_of_lt, mul-le-mul_left}
use Rattle.fairness.specs.Numbers.LowestTerms.{reduced_scales}
use Rattle.fairness.proofs.Fairness.OneAllocation.{same_amounts}

-- lowest terms are no greater
pub small_fits : (n d : ℕ) → 0 < d → n < 2 ^ 128 → d < 2 ^ 128 → ReducedFits (parts_over d n)
small_fits n d some n_small d_small =
    let s = reduced_scales n d some in
    record {
      numerator = lt_of_le_of_lt (part n s.factor (reduced n d).num s.positive s.num) n_small;
      denominator = lt_of_le_of_lt (part d s.factor (reduced n d).den s.positive s.den) d_small;
    }
  where
    part : (whole factor rest : ℕ) → 0 < factor → whole ≡ factor * rest → rest ≤ whole
    part whole factor rest f e = omega (arith, e, mul-le-mul_left rest f)

-- amounts of one value fit both or neither
pub fits_alike : (n d m e : ℕ) → 0 < d → 0 < e → n * e ≡ m * d → ReducedFits (parts_over e m)
    → ReducedFits (parts_over d n)
fits_alike n d m e d_pos e_pos same fits =
    let is : reduced n d ≡ reduced m e = reduced_same n d m e d_pos e_pos same in
    record {
      numerator = subst (λ a. a.num < 2 ^ 128) (sym is) fits.numerator;
      denominator = subst (λ a. a.den < 2 ^ 128) (sym is) fits.denominator;
    }

-- the rate of a flow that has a bottleneck fits where the sides' numbers do
rate_fits : (per flows parts limit : ℕ) → 0 < per → 0 < flows → parts ≤ limit * per → per * flows * limit < 2 ^ 128
    → ReducedFits (parts_over per parts)
rate_fits per flows parts limit some flows_some le small = elim (cases_lt 0 limit) [
  | inl positive ↦
      small_fits parts per some (lt_of_le_of_lt (omega (arith, le, mul-le-mul_left (limit * per) flows_some)) small)
      (lt_of_le_of_lt (omega (arith, mul-le-mul_left per flows_some, mul-le-mul_left (per * flows) positive)) small)
  | inr none ↦
      let zero : limit * per ≡ 0 = search rules in
      fits_alike parts per 0 1 some (omega arith) (omega (arith, le, zero))
      (small_fits 0 1 (omega arith) (lit< tt) (lit< tt))
]

-- so where a fair rate is no such fraction, no fair rates fit
pub large_does_not_fit : (sides : List Side) (flows : ℕ) → HaveUsersBelow flows sides → HasLargeRate sides
    → ¬ FairRatesFit sides flows
large_does_not_fit sides flows among large fits =
    let flow = large.flow in
    let h = fits.fair.held flow large.limited in
    let used = h.uses.used in
    let here = get_or-le-sum_by fits.parts h.side.users used.0 flow used.1 in
    let at_most : fits.parts flow ≤ h.side.cap * fits.per = omega (arith, here, ap fits.parts used.2, h.full) in
    let below : flow < flows = search (rules, All-contains) in
    let small = All-contains (λ s. fits.per * flows * s.cap < 2 ^ 128) sides h.side fits.small h.uses.listed in
    large.large
    (fits_alike (large.parts flow) large.per (fits.parts flow) fits.per large.fair.some_part fits.fair.some_part
    (same_amounts sides large.per fits.per large.parts fits.parts large.fair fits.fair flow large.limited)
    (rate_fits fits.per flows (fits.parts flow) h.side.cap fits.fair.some_part (omega (arith, below)) at_most small))
