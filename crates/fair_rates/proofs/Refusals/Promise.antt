-- The promises: sixteen flows with caps below 2^64 fit, and of what the rates of a few flows are whole.
use Rattle.fair_rates.proofs.Common.{◌⊎◌, inl, inr, refl, [], ◌∷◌, AllPairs, ℕ, ◌*◌, ◌^◌, ◌<◌, ◌≤◌, List, get_or, All}
use Rattle.fair_rates.proofs.Common.{Contains, subst, arith, side_of, Side, AreFairRates, HaveUsersBelow, FairRatesFit}
use Rattle.fair_rates.proofs.Common.{AreWholeOver, Rate, cases_lt, All-nil, All-cons, All-map, Contains-append_left}
use Rattle.fair_rates.proofs.Common.{Contains-append_right, rules}
use Rattle.std.proofs.Common.{mul-le-mul}
use Rattle.std.proofs.Math.Nat.{lt_of_le_of_lt}
use Rattle.std.specs.Prelude.{map}
use Rattle.fair_rates.specs.declared.bandwidth.sides.Side as declared_side
use Rattle.fairness.proofs.Fairness.Denominators.{denominator_of, of_four, of_sixteen, at_most}
use Rattle.fairness.proofs.Filling.FairPartsExist.{fair_parts}
use Rattle.fairness.proofs.Fairness.WholeRates.{whole_rates}
use Rattle.fairness.proofs.Sides.UserCounts.{AreDistinct, HaveDistinctUsers}

-- ---- sixteen flows

small_product : (per flows limit : ℕ) → per ≤ 54486432000 → flows ≤ 16 → limit < 2 ^ 64 → per * flows * limit < 2 ^ 128
small_product per flows limit per_le flows_le limit_lt = search (rules, mul-le-mul, lt_of_le_of_lt)

-- at most sixteen flows with caps below 2^64 fit
pub sixteen_fit : (sides : List Side) (flows : ℕ) → flows ≤ 16 → HaveUsersBelow flows sides → HaveDistinctUsers sides
    → All (λ side. side.cap < 2 ^ 64) sides → FairRatesFit sides flows
sixteen_fit sides flows small among distinct caps =
    let fair = fair_parts flows sides among distinct in
    record {
      per = denominator_of flows;
      parts = fair.0;
      fair = fair.1;
      small = λ k d l.
          small_product (denominator_of flows) flows (get_or sides k d).cap (at_most flows small) small (caps k d l);
    }

-- all caps are below 2^64, or one is not
caps_below : (sides : List Side)
    → All (λ side. side.cap < 2 ^ 64) sides ⊎ ((side : Side) × Contains sides side × (2 ^ 64 ≤ side.cap))
caps_below [] = inl (All-nil (λ side. side.cap < 2 ^ 64))
caps_below (side ∷ sides) = elim (cases_lt side.cap (2 ^ 64)) [
  | inr large ↦ inr (side, Contains-append_left (side ∷ []) sides side (0, omega arith, refl), large)
  | inl small ↦ elim (caps_below sides) [
    | inl all ↦ inl (All-cons (λ side. side.cap < 2 ^ 64) side sides small all)
    | inr (other, listed, large) ↦ inr (other, Contains-append_right (side ∷ []) sides other listed, large)
  ]
]

-- where no fair rates fit there are more flows, or there is a greater cap
pub too_many_or_large : (sides : List Side) (flows : ℕ) → HaveUsersBelow flows sides → HaveDistinctUsers sides
    → ¬ FairRatesFit sides flows → (16 < flows) ⊎ ((side : Side) × Contains sides side × (2 ^ 64 ≤ side.cap))
too_many_or_large sides flows among distinct refused = elim (cases_lt 16 flows) [
  | inl many ↦ inl many
  | inr few ↦ elim (caps_below sides) [
    | inr large ↦ inr large
    | inl small ↦ absurd (refused (sixteen_fit sides flows few among distinct small))
  ]
]

-- ---- the sides of the code

-- users that rise are distinct
pub distinct_sides : (sides : List declared_side.Side) → All (λ side. AllPairs (λ a b. a < b) side.users.items) sides
    → HaveDistinctUsers (map side_of sides)
distinct_sides sides rise =
    All-map (λ side. AreDistinct side.users) side_of sides (λ k d inside i j e before within same.
    let less : get_or (get_or sides k d).users.items i e < get_or (get_or sides k d).users.items j e = search rules in
    absurd (omega arith))

pub users_below_sides : (flows : ℕ) (sides : List declared_side.Side)
    → All (λ side. All (λ user. user < flows) side.users.items) sides → HaveUsersBelow flows (map side_of sides)
users_below_sides flows sides among = All-map (λ side. All (λ user. user < flows) side.users) side_of sides among

-- ---- whole over the denominator

-- of at most four flows twelve times each rate is whole
pub twelfths : (sides : List Side) (flows : ℕ) (rates : List Rate)
    → flows ≤ 4 → HaveUsersBelow flows sides → HaveDistinctUsers sides → AreFairRates sides flows rates
    → AreWholeOver 12 rates
twelfths sides flows rates small among distinct fair =
    subst (λ per. AreWholeOver per rates) of_four (whole_rates 4 sides flows rates small among distinct fair)

-- and of at most sixteen, 54486432000 times
pub whole_of_sixteen : (sides : List Side) (flows : ℕ) (rates : List Rate)
    → flows ≤ 16 → HaveUsersBelow flows sides → HaveDistinctUsers sides → AreFairRates sides flows rates
    → AreWholeOver 54486432000 rates
whole_of_sixteen sides flows rates small among distinct fair =
    subst (λ per. AreWholeOver per rates) of_sixteen (whole_rates 16 sides flows rates small among distinct fair)
