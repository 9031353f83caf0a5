-- The fair parts of the flows as rates.
use Rattle.fair_rates.proofs.Common.{◌≡◌, ◌≢◌, ℕ, ◌<◌, List, [], ◌∷◌, ◌++◌, length, get_or, AllPairs, Contains, Option}
use Rattle.fair_rates.proofs.Common.{Some, None, sym, subst, ap, ◌∙◌, arith, length-append, eq_of_mul-eq-mul_right}
use Rattle.fair_rates.proofs.Common.{cases_eq, cases_lt, get_or_past, get_or_append_left, parts_over, Side, level_at}
use Rattle.fair_rates.proofs.Common.{flow_parts, IsRateAt, whole_IsReduced, IsWorth, IsRateOf, AreFairRates}
use Rattle.fair_rates.proofs.Common.{HasDifferentRates, HasLargeRate, Rate, Finite, Ratio, rules}
use Rattle.std.proofs.lemmas.List.{get_or_push}
use Rattle.fair_rates.specs.Filling.FairParts.{parts_of_level, AreRatesAt, HasLargeLevel}
use Rattle.fair_rates.specs.Filling.States.{AreFilled}
use Rattle.fair_rates.specs.declared.bandwidth.parts.FairParts.{FairParts}
use Rattle.fairness.proofs.Filling.Frozen.{not_some, some_is}

zero_ratio : Ratio
zero_ratio = record { numerator = 0; denominator = 1; positive = omega arith; reduced = whole_IsReduced 0 }

-- one rate more
pub rated_push : (Holds : ℕ → Rate → Type 0) (rates : List Rate) (rate : Rate) (n : ℕ) → length rates ≡ n → Holds n rate
    → ((flow : ℕ) (d : Rate) → flow < length rates → Holds flow (get_or rates flow d))
    → (flow : ℕ) (d : Rate) → flow < length (rates ++ rate ∷ []) → Holds flow (get_or (rates ++ rate ∷ []) flow d)
rated_push Holds rates rate n len here all flow d inside =
    search (rules, cases_eq, get_or_push, length-append, get_or_append_left)

-- ---- the rates are fair

module _ (sides : List Side) (flows : ℕ) (found : FairParts) (rates : List Rate)
    (filled : AreFilled sides flows found) (are : AreRatesAt found rates) where
  abbrev levels : List ℕ
  levels = found.levels.items

  abbrev level_of : List (Option ℕ)
  level_of = found.level_of.items

  rate_of : (flow : ℕ) (o : Option ℕ) (rate : Rate) → level_at level_of flow ≡ o → IsRateAt are.fractions o rate
      → IsRateOf sides found.scale (flow_parts levels level_of) flow rate
  rate_of flow None rate e unlimited =
      subst (IsRateOf sides found.scale (flow_parts levels level_of) flow) (sym unlimited)
      (λ limited. not_some (level_at level_of flow) e ((filled.limited flow).1 limited))
  rate_of flow (Some place) rate e (inside, is) =
      let none : Ratio = zero_ratio in
      let worth = are.levels.worth place none inside in
      subst (IsRateOf sides found.scale (flow_parts levels level_of) flow) (sym (is none)) (
        (filled.limited flow).0 (some_is (level_at level_of flow) place e),
        subst (λ n. IsWorth (get_or are.fractions place none) (parts_over found.scale n))
            (sym (ap (parts_of_level levels) e)) worth,
      )

  pub rates_are_fair : AreFairRates sides flows rates
  rates_are_fair = search (rules, rate_of)

  -- ---- and as many as there are levels

  apart : AllPairs (λ a b. a ≢ b) are.fractions
  apart i j d less inside same = search (rules, eq_of_mul-eq-mul_right)

  is_level : (ratio : Ratio) (o : Option ℕ) → IsRateAt are.fractions o (Finite ratio) → Contains are.fractions ratio
  is_level ratio None e = cc
  is_level ratio (Some place) (inside, is) =
      let e = is ratio in let same : ratio ≡ get_or are.fractions place ratio = cc in (place, inside, sym same)

  is_rated : (ratio : Ratio) → Contains rates (Finite ratio) → Contains are.fractions ratio
  is_rated ratio (flow, inside, is) = search (rules, is_level)

  is_some : (ratio : Ratio) → Contains are.fractions ratio → Contains rates (Finite ratio)
  is_some ratio (place, inside, is) =
      let user = filled.reached place (omega (arith, inside, are.levels.one_each)) in
      let flow = user.0 in
      let within : flow < length level_of = search (rules, cases_lt, get_or_past) in
      let has : IsRateAt are.fractions (Some place) (get_or rates flow (Finite ratio)) = search rules in
      (flow, omega (arith, within, are.one_each), has.1 ratio ∙ ap Finite is)

  pub rates_are_different : HasDifferentRates rates (length levels)
  rates_are_different = (
    are.fractions,
    record { different = apart; each = λ ratio. (is_rated ratio, is_some ratio) },
    are.levels.one_each,
  )

-- a level that is no fraction is a fair rate that is none
pub large_rate : (sides : List Side) (flows : ℕ) (found : FairParts) → AreFilled sides flows found
    → HasLargeLevel found → HasLargeRate sides
large_rate sides flows found filled large =
    let user = filled.reached large.place large.inside in
    record {
      per = found.scale;
      parts = flow_parts found.levels.items found.level_of.items;
      fair = filled.fair;
      flow = user.0;
      limited = (filled.limited user.0).0 (some_is (level_at found.level_of.items user.0) large.place user.1);
      large = search rules;
    }
