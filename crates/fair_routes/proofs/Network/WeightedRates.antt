-- Rates that are fair by weight: what is found is such a list, there is one, and where it is zero.
use Rattle.fair_routes.proofs.Common.{◌≡◌, ℕ, ◌*◌, ◌^◌, ◌<◌, ◌≤◌, List, All, Contains, Option, Some, None, length, map}
use Rattle.fair_routes.proofs.Common.{get_or, refl, sym, ap, ◌∙◌, subst, arith, option_map, slice_index}
use Rattle.fair_routes.proofs.Common.{eq_of_mul-eq-mul_right, get_or_default, All-contains, slice_get_within}
use Rattle.fair_routes.proofs.Common.{get_or_from_slice_get, Side, load, IsLimited, IsFair, IsRateOf, at_level, Rate}
use Rattle.fair_routes.proofs.Common.{Unlimited, Finite, Ratio, listed_on, listed_from, none_or_some, not_some, some_is}
use Rattle.fair_routes.proofs.Common.{All-from_contains, frozen_in, weight_at, weighted, as_often, by_weight}
use Rattle.fair_routes.proofs.Common.{AreWeightedRates, common_steps, rules, ext_get_or, level_at, IsWorth}
use Rattle.fair_routes.proofs.Common.{same_amounts, worth_too, at_none, AreFilledByWeight, HasLargeWeightedRate}
use Rattle.std.proofs.Common.{IfSome}
use Rattle.fairness.specs.Fairness.Laws.{UsesClosedSide, AreZeroWhereClosed}
use Rattle.fair_rates.specs.Filling.FairParts.{IsRateAt, AreRatesAt, HasLargeLevel}
use Rattle.fair_rates.specs.Filling.States.{AreInside}
use Rattle.fairness.specs.Numbers.Amount.{Amount, parts_over}
use Rattle.fairness.specs.Numbers.Fits.{ReducedFits}
use Rattle.fairness.specs.Numbers.LowestTerms.{whole_IsReduced}
use Rattle.fair_rates.specs.declared.bandwidth.parts.FairParts.{FairParts}
use Rattle.fairness.proofs.Lists.SumOrder.{sum_by-zero}
use Rattle.fairness.proofs.Numbers.Ratio.{one_ratio, worth_is_reduced}
use Rattle.fair_routes.specs.Network.Rising.{AreWeighed}
use Rattle.fair_routes.specs.Network.Weights.{IsTheOnlyWeighted}
use Rattle.fair_routes.specs.declared.routes.weighted.rising.Rising.{Rising}
use Rattle.fair_routes.proofs.Network.ByWeight.{limited_wide, uses_often, often_uses, some_weight}
use Rattle.fairness.proofs.Fairness.ClosedSides.{member_at_most}

zero_ratio : Ratio
zero_ratio = record { numerator = 0; denominator = 1; positive = omega arith; reduced = whole_IsReduced 0 }

-- nothing is a fraction of 128 bits
nothing_fits : (scale : ℕ) → 0 < scale → ReducedFits (parts_over scale 0)
unfolding zero_ratio
nothing_fits scale some =
    let is = worth_is_reduced zero_ratio (parts_over scale 0) some (omega arith) in
    record {
      numerator = subst (λ (a : Amount). a.num < 2 ^ 128) is (omega arith);
      denominator = subst (λ (a : Amount). a.den < 2 ^ 128) is (omega arith);
    }

-- ---- what is found

module _ (sides : List Side) (weights : List ℕ) (rising : Rising) (found : FairParts)
    (filled : AreFilledByWeight sides weights rising) (are : AreWeighed weights rising found) where
  abbrev frozen : ℕ → Option ℕ
  frozen = frozen_in rising.parts.items

  place_of : (flow : ℕ) (o : Option ℕ) → frozen flow ≡ o → level_at found.level_of.items flow ≡ option_map (λ _. flow) o
  place_of flow o is = are.place flow ∙ ap (option_map (λ _. flow)) is

  inside_if : (flow : ℕ) → flow < length rising.parts.items → (o : Option ℕ) → level_at found.level_of.items flow ≡ option_map (λ _. flow) o
      → IfSome (level_at found.level_of.items flow) (λ place. place < length found.levels.items)
  inside_if flow within None is = search rules
  inside_if flow within (Some n) is = search rules

  pub levels_inside : AreInside found.levels.items found.level_of.items
  levels_inside k d within = search (rules, get_or_default, inside_if)

  module _ (rates : List Rate) (at : AreRatesAt found rates) where
    rate_by : (flow : ℕ) (o : Option ℕ) (rate : Rate) → flow < length weights → frozen flow ≡ o
        → IsRateAt at.fractions (option_map (λ _. flow) o) rate
        → IsRateOf sides rising.scale (by_weight weights (at_level frozen 0)) flow rate
    rate_by flow None rate within none unlimited =
        subst (IsRateOf sides rising.scale (by_weight weights (at_level frozen 0)) flow) (sym unlimited)
        (λ limited. not_some (frozen flow) none ((filled.limited flow).1 limited))
    rate_by flow (Some parts) rate within some (inside, is) =
        let fraction = get_or at.fractions flow zero_ratio in
        let worth = at.levels.worth flow zero_ratio inside in
        let level : slice_index found.levels.items flow ≡ by_weight weights (at_level frozen 0) flow =
        omega (arith, are.level flow (omega (arith, within, filled.one_each))) in
        subst (IsRateOf sides rising.scale (by_weight weights (at_level frozen 0)) flow) (sym (is zero_ratio)) (
          (filled.limited flow).0 (some_is (frozen flow) parts some),
          subst (λ n. IsWorth fraction (parts_over n (by_weight weights (at_level frozen 0) flow))) are.scale
              (subst (λ n. IsWorth fraction (parts_over found.scale n)) level worth),
        )

    pub rates_by_weight : AreWeightedRates sides weights rates
    rates_by_weight = search (rules, rate_by)

  -- a level that is no fraction is that of a flow
  pub large_by_weight : HasLargeLevel found → HasLargeWeightedRate sides weights
  large_by_weight large = search (rules, none_or_some, some_is, at_none, nothing_fits)

-- ---- one list

module _ (sides : List Side) (weights : List ℕ) (positive : (u : ℕ) → u < length weights → 0 < weight_at weights u)
    (among : All (λ side. All (λ u. u < length weights) side.users) sides) where
  abbrev wide : List Side
  wide = map (weighted weights) sides

  pub same_by_weight : (D E : ℕ) (a b : ℕ → ℕ) → IsFair wide D a → IsFair wide E b → (i : ℕ) → IsLimited sides i
      → by_weight weights a i * E ≡ by_weight weights b i * D
  same_by_weight D E a b f g i limited =
      grind (
        arith,
        common_steps,
        same_amounts wide D E a b f g i (limited_wide weights sides positive among i limited),
        limited_wide weights sides positive among i limited,
      )

  same_rate : (D E : ℕ) (a b : ℕ → ℕ) → IsFair wide D a → IsFair wide E b → (i : ℕ) (x y : Rate)
      → IsRateOf sides D (by_weight weights a) i x → IsRateOf sides E (by_weight weights b) i y → x ≡ y
  same_rate D E a b f g i Unlimited Unlimited u v = refl
  same_rate D E a b f g i Unlimited (Finite y) u v = absurd (u v.0)
  same_rate D E a b f g i (Finite x) Unlimited u v = absurd (v u.0)
  same_rate D E a b f g i (Finite x) (Finite y) u v = search (rules, worth_too, same_by_weight, one_ratio)

  pub one_by_weight : (rates : List Rate) → AreWeightedRates sides weights rates → IsTheOnlyWeighted sides weights rates
  one_by_weight r f s g =
      ext_get_or Unlimited s r (g.one_each ∙ sym f.one_each) (λ i within.
      let here : i < length weights = omega (arith, g.one_each, within) in
      same_rate g.per f.per g.parts f.parts g.fair f.fair i (get_or s i Unlimited) (get_or r i Unlimited)
      (g.rated i Unlimited here) (f.rated i Unlimited here))

  -- ---- zero where closed

  closed_is_zero : (per : ℕ) (parts : ℕ → ℕ) → IsFair wide per parts → (flow : ℕ) → UsesClosedSide sides flow
      → by_weight weights parts flow ≡ 0
  closed_is_zero per parts f flow u =
      let some = some_weight weights sides positive among u.side u.uses.listed flow u.uses.used in
      let within =
      All-contains (λ (s : Side). load parts s ≤ s.cap * per) wide (weighted weights u.side) f.within
      (listed_on (weighted weights) sides u.side u.uses.listed) in
      let own =
      member_at_most parts (as_often weights u.side.users) flow
      (often_uses weights u.side.users flow some u.uses.used) in
      let nothing : parts flow ≡ 0 = omega (arith, within, own, ap (λ n. n * per) u.closed) in
      omega (arith, ap (λ n. weight_at weights flow * n) nothing)

  zero_is_closed : (per : ℕ) (parts : ℕ → ℕ) → IsFair wide per parts → (flow : ℕ) → IsLimited sides flow
      → by_weight weights parts flow ≡ 0 → UsesClosedSide sides flow
  zero_is_closed per parts f flow limited none =
      let some = some_weight weights sides positive among limited.0 limited.1.listed flow limited.1.used in
      let nothing = eq_of_mul-eq-mul_right (weight_at weights flow) some (parts flow) 0 (omega (arith, none)) in
      let h = f.held flow (limited_wide weights sides positive among flow limited) in
      let users = h.side.users in
      let all_none =
      All-from_contains (λ j. parts j ≡ 0) users
      (λ j used. omega (arith, nothing, All-contains (λ j. parts j ≤ parts flow) users j h.greatest used)) in
      let empty : load parts h.side ≡ 0 = sum_by-zero parts users all_none in
      let cap = eq_of_mul-eq-mul_right per f.some_part h.side.cap 0 (omega (arith, empty, h.full)) in
      let from = listed_from (weighted weights) sides h.side h.uses.listed in
      record {
        side = from.0;
        uses = record {
          listed = from.1;
          used = uses_often weights from.0.users flow
              (subst (λ (s : Side). Contains s.users flow) (sym from.2) h.uses.used);
        };
        closed = ap (λ (s : Side). s.cap) from.2 ∙ cap;
      }

  pub zero_by_weight : (rates : List Rate) → AreWeightedRates sides weights rates → AreZeroWhereClosed sides rates
  zero_by_weight rates f flow r has =
      let within : flow < length rates = slice_get_within rates flow (Finite r) has in
      let is : IsRateOf sides f.per (by_weight weights f.parts) flow (Finite r) =
      subst (λ x. IsRateOf sides f.per (by_weight weights f.parts) flow x)
      (get_or_from_slice_get rates flow (Finite r) (Finite r) has)
      (f.rated flow (Finite r) (omega (arith, within, f.one_each))) in (
        (λ none.
            let product : by_weight weights f.parts flow * r.denominator ≡ 0 * r.denominator =
            omega (arith, is.1, ap (λ n. n * f.per) none) in
            zero_is_closed f.per f.parts f.fair flow is.0
            (eq_of_mul-eq-mul_right r.denominator r.positive (by_weight weights f.parts flow) 0 product)),
        (λ closed.
            let product : r.numerator * f.per ≡ 0 * f.per =
            omega (arith, is.1, ap (λ n. n * r.denominator) (closed_is_zero f.per f.parts f.fair flow closed)) in
            eq_of_mul-eq-mul_right f.per f.fair.some_part r.numerator 0 product),
      )
