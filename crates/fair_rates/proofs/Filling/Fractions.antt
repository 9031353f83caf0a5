-- Parts over a product of small factors, brought to lowest terms factor by factor.
use Rattle.fair_rates.proofs.Common.{◌∣◌, ◌≡◌, ℕ, ◌+◌, ◌*◌, ◌/◌, ◌^◌, ◌<◌, List, [], ◌∷◌, ◌++◌, length, get_or, take}
use Rattle.fair_rates.proofs.Common.{All, sym, ap, subst, ◌∙◌, arith, mul-pos, dvd-mul_right, All-head, All-tail}
use Rattle.fair_rates.proofs.Common.{product, gcd, parts_over, reduced, ReducedFits, IsReduced, gcd-IsGcd, gcd-pos}
use Rattle.fair_rates.proofs.Common.{gcd-mod, reduced_same, reduced_lowest, common_steps}
use Rattle.std.proofs.Common.{◌%◌}
use Rattle.std.proofs.Math.Nat.{div-mul_cancel}
use Rattle.std.proofs.lemmas.List.{take_more}
use Rattle.std.proofs.lemmas.Nat.Gcd.{dvd_refl}
use Rattle.fairness.specs.Numbers.LowestTerms.{coprime_parts, IsReduced-part, IsReduced-mul, IsReduced-swap}
use Rattle.fair_rates.proofs.Filling.Share.{quotient_positive}

-- ---- products

pub product_push : (numbers : List ℕ) (n : ℕ) → product (numbers ++ n ∷ []) ≡ product numbers * n
product_push [] n = omega arith
product_push (m ∷ numbers) n = omega (arith, ap (λ k. m * k) (product_push numbers n))

pub product_positive : (numbers : List ℕ) → All (λ n. 0 < n) numbers → 0 < product numbers
product_positive [] all = omega arith
product_positive (n ∷ numbers) all =
    mul-pos (All-head (λ k. 0 < k) n numbers all) (product_positive numbers (All-tail (λ k. 0 < k) n numbers all))

-- one factor more
pub product_next : (numbers : List ℕ) (i : ℕ) → i < length numbers
    → product (take (i + 1) numbers) ≡ product (take i numbers) * get_or numbers i 0
product_next numbers i inside = grind (arith, common_steps, take_more, product_push)

-- ---- one factor

-- what a factor has in common with the numerator, as Euclid's division finds it
pub shared_is : (n factor : ℕ) → 0 < factor → gcd factor (n % factor) ≡ gcd n factor
shared_is n factor some = gcd-mod n factor some

module _ (n d factor shared : ℕ) (some : 0 < factor) (is : shared ≡ gcd n factor) where
  pub shared_positive : 0 < shared
  shared_positive = omega (arith, is, gcd-pos n factor some)

  numerator_divides : shared ∣ n
  numerator_divides = subst (λ k. k ∣ n) (sym is) (gcd-IsGcd n factor).0

  factor_divides : shared ∣ factor
  factor_divides = subst (λ k. k ∣ factor) (sym is) (gcd-IsGcd n factor).1

  pub rest_positive : 0 < d → 0 < d * (factor / shared)
  rest_positive d_pos =
      mul-pos d_pos (quotient_positive factor shared (factor / shared) some (div-mul_cancel shared factor_divides))

  apart : IsReduced (n / shared) (factor / shared)
  apart = subst (λ k. IsReduced (n / k) (factor / k)) (sym is) (coprime_parts n factor some)

  -- afterwards numerator and denominator have nothing in common again
  pub lowest_next : IsReduced n d → IsReduced (n / shared) (d * (factor / shared))
  lowest_next was =
      let part : (n / shared) ∣ n =
      subst (λ k. (n / shared) ∣ k) (div-mul_cancel shared numerator_divides) (dvd-mul_right (n / shared) shared) in
      IsReduced-swap (d * (factor / shared)) (n / shared) (IsReduced-mul d (factor / shared) (n / shared)
      (IsReduced-swap (n / shared) d (IsReduced-part n d (n / shared) d part (dvd_refl d) was))
      (IsReduced-swap (n / shared) (factor / shared) apart))

  -- and the value is that of one factor more
  pub worth_next : (parts passed : ℕ) → parts * d ≡ n * passed
      → parts * (d * (factor / shared)) ≡ n / shared * (passed * factor)
  worth_next parts passed worth =
      let top = div-mul_cancel shared numerator_divides in
      let bottom = div-mul_cancel shared factor_divides in
      let m = n / shared in
      let q = factor / shared in
      omega (arith, ap (λ k. k * q) worth, ap (λ k. k * (passed * q)) (sym top), ap (λ k. m * passed * k) (sym bottom))

-- ---- the end

-- the lowest terms are what is reduced
pub reduced_to : (parts total n d : ℕ) → 0 < total → 0 < d → parts * d ≡ n * total → IsReduced n d
    → reduced parts total ≡ record { num = n; den = d }
reduced_to parts total n d total_pos d_pos worth lowest =
    reduced_same parts total n d total_pos d_pos worth ∙ reduced_lowest n d lowest

module _ (parts total n d : ℕ) (total_pos : 0 < total) (d_pos : 0 < d) (worth : parts * d ≡ n * total)
    (lowest : IsReduced n d) where
  pub large_numerator : (n < 2 ^ 128 → ⊥) → ¬ ReducedFits (parts_over total parts)
  large_numerator large fits = grind (arith, common_steps, reduced_to parts total n d total_pos d_pos worth lowest)

  pub large_denominator : (d < 2 ^ 128 → ⊥) → ¬ ReducedFits (parts_over total parts)
  large_denominator large fits = grind (arith, common_steps, reduced_to parts total n d total_pos d_pos worth lowest)
