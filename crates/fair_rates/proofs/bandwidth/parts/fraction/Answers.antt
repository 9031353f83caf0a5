use Rattle.fair_rates.proofs.Common.{◌≡◌, ℕ, Option, None, IsSome, ◌*◌, ◌^◌, ◌/◌, ◌<◌, get_or, length, take, inr, ap}
use Rattle.fair_rates.proofs.Common.{sym, subst, arith, ◌∙◌, common_steps, take_all, product, gcd, IsReduced}
use Rattle.fair_rates.proofs.Common.{whole_IsReduced}
use Rattle.std.specs.Prelude.{◌↔◌}
use Rattle.fair_rates.proofs.Filling.Fractions.{product_next, product_positive, shared_is, shared_positive}
use Rattle.fair_rates.proofs.Filling.Fractions.{rest_positive, lowest_next, worth_next, large_numerator}
use Rattle.fair_rates.proofs.Filling.Fractions.{large_denominator}
use Rattle.fairness.proofs.Filling.Frozen.{none_by, ok_by, not_some, if_err, some_of_if}
use Rattle.fair_rates.proofs.bandwidth.parts.fraction.Goals as goal

pub loop-factor-init : goal.loop-factor-init
loop-factor-init c = record {
  positive = omega (arith, c.from_u64-denominator.ensures);
  lowest =
      subst (IsReduced c.in_ok-numerator.numerator) (sym c.from_u64-denominator.ensures)
      (whole_IsReduced c.in_ok-numerator.numerator);
  worth = grind (arith, common_steps);
}

pub divide-requires : goal.divide-requires
divide-requires c =
    let i = c.loop-factor.factor-index in
    let factor = get_or c.args.factors.now i 0 in
    let some : 0 < factor = grind (arith, common_steps, c.requires) in
    shared_positive c.loop-factor.numerator c.loop-factor.denominator factor c.gcd_of_narrow-shared.result some
    (c.gcd_of_narrow-shared.ensures ∙ ap (gcd factor) c.remainder.ensures
    ∙ shared_is c.loop-factor.numerator factor some)

pub nonzero_div-factor : goal.nonzero_div-factor
nonzero_div-factor c =
    let i = c.loop-factor.factor-index in
    let factor = get_or c.args.factors.now i 0 in
    let some : 0 < factor = grind (arith, common_steps, c.requires) in
    shared_positive c.loop-factor.numerator c.loop-factor.denominator factor c.gcd_of_narrow-shared.result some
    (c.gcd_of_narrow-shared.ensures ∙ ap (gcd factor) c.remainder.ensures
    ∙ shared_is c.loop-factor.numerator factor some)

pub loop-factor-preserved : goal.loop-factor-preserved
loop-factor-preserved c =
    let i = c.loop-factor.factor-index in
    let factor = get_or c.args.factors.now i 0 in
    let some : 0 < factor = grind (arith, common_steps, c.requires) in
    let inside : i < length c.args.factors.now = omega (arith, c.loop-factor-test.true) in
    let n = c.loop-factor.numerator in
    let d = c.loop-factor.denominator in
    let shared = c.gcd_of_narrow-shared.result in
    let is = c.gcd_of_narrow-shared.ensures ∙ ap (gcd factor) c.remainder.ensures ∙ shared_is n factor some in
    let top : c.divide.new.self ≡ n / shared = c.divide.ensures.quotient in
    let bottom : c.multiply.new.self ≡ d * (factor / shared) = c.in_ok-multiply.ensures.value in
    record {
      positive = omega (arith, bottom, rest_positive n d factor shared some is c.loop-factor.invariant.positive);
      lowest =
          subst (λ m. IsReduced m c.multiply.new.self) (sym top) (subst (λ m. IsReduced (n / shared) m) (sym bottom)
          (lowest_next n d factor shared some is c.loop-factor.invariant.lowest));
      worth =
          ap (λ m. c.args.parts.now * m) bottom
          ∙ worth_next n d factor shared some is c.args.parts.now (product (take i c.args.factors.now))
          c.loop-factor.invariant.worth ∙ ap (λ m. m * (product (take i c.args.factors.now) * factor)) (sym top)
          ∙ ap (λ m. c.divide.new.self * m) (sym (product_next c.args.factors.now i inside));
    }

not_small : {n : ℕ} (o : Option ℕ) → IsSome o ↔ (n < 2 ^ 128) → o ≡ None → n < 2 ^ 128 → ⊥
not_small o fits none small = not_some o none (fits.1 small)

pub returns-in_err-numerator-2-clause-refused : goal.returns-in_err-numerator-2-clause-refused
returns-in_err-numerator-2-clause-refused c =
    let worth = c.loop-factor.invariant.worth ∙ ap (λ xs. c.loop-factor.numerator * product xs)
    (take_all c.loop-factor.factor-index c.args.factors.now (omega (arith, c.loop-factor-test.false))) in
    let none = none_by c.to_u128.result c.in_err-numerator-2.field-0.0 _ c.in_err-numerator-2.ensures.value in
    if_err _ _ c.from_residual-in_err-numerator-2.result c.from_residual-in_err-numerator-2.ensures.1 (λ e is. inr (
      is ∙ none.0,
      large_numerator c.args.parts.now (product c.args.factors.now) c.loop-factor.numerator c.loop-factor.denominator
          (product_positive c.args.factors.now c.requires)
          c.loop-factor.invariant.positive worth c.loop-factor.invariant.lowest
          (not_small c.to_u128.result c.to_u128.ensures.fits none.1),
    ))

pub returns-in_err-denominator-clause-refused : goal.returns-in_err-denominator-clause-refused
returns-in_err-denominator-clause-refused c =
    let worth = c.loop-factor.invariant.worth ∙ ap (λ xs. c.loop-factor.numerator * product xs)
    (take_all c.loop-factor.factor-index c.args.factors.now (omega (arith, c.loop-factor-test.false))) in
    let none = none_by c.to_u128-2.result c.in_err-denominator.field-0.0 _ c.in_err-denominator.ensures.value in
    if_err _ _ c.from_residual-in_err-denominator.result c.from_residual-in_err-denominator.ensures.1 (λ e is. inr (
      is ∙ none.0,
      large_denominator c.args.parts.now (product c.args.factors.now) c.loop-factor.numerator c.loop-factor.denominator
          (product_positive c.args.factors.now c.requires)
          c.loop-factor.invariant.positive worth c.loop-factor.invariant.lowest
          (not_small c.to_u128-2.result c.to_u128-2.ensures.fits none.1),
    ))

pub from_lowest-requires-clause-lowest : goal.from_lowest-requires-clause-lowest
from_lowest-requires-clause-lowest c =
    let n =
    some_of_if (λ k. k ≡ c.loop-factor.numerator) c.to_u128.result c.to_u128.ensures.value
    c.in_ok-numerator-2.numerator
    (ok_by c.to_u128.result c.in_ok-numerator-2.numerator _ c.in_ok-numerator-2.ensures.value) in
    let d =
    some_of_if (λ k. k ≡ c.loop-factor.denominator) c.to_u128-2.result c.to_u128-2.ensures.value
    c.in_ok-denominator.denominator
    (ok_by c.to_u128-2.result c.in_ok-denominator.denominator _ c.in_ok-denominator.ensures.value) in
    subst (λ k. IsReduced k c.in_ok-denominator.denominator) (sym n)
    (subst (λ k. IsReduced c.loop-factor.numerator k) (sym d) c.loop-factor.invariant.lowest)
