-- Who gets more than a rate that is fair by weight takes it from a flow that has no more for each one of its weight.
use Rattle.fair_routes.proofs.Common.{◌≡◌, ℕ, ◌*◌, ◌<◌, ◌≤◌, inl, inr, List, Some, get_or, length, map, All, ap, sym}
use Rattle.fair_routes.proofs.Common.{subst, arith, mul-le-mul_right, Contains, slice_get, All-contains}
use Rattle.fair_routes.proofs.Common.{slice_get-get_or, slice_get_within, get_or_from_slice_get, Side, load, IsLimited}
use Rattle.fair_routes.proofs.Common.{IsFair, HaveUsersBelow, IsRateOf, Rate, Unlimited, Finite, Ratio, listed_from}
use Rattle.fair_routes.proofs.Common.{sum_by-scaled, weight_at, weighted, as_often, by_weight, AreWeightedRates}
use Rattle.fair_routes.proofs.Common.{common_steps}
use Rattle.fairness.specs.Fairness.Fair.{IsWithinCaps}
use Rattle.fairness.specs.Fairness.Laws.{HasRate}
use Rattle.fairness.proofs.Lists.SumOrder.{sum_by-under, at_most_or_more}
use Rattle.fair_routes.specs.Network.WeightLaws.{RatesByWeightAreMaxMin}
use Rattle.fair_routes.proofs.Network.ByWeight.{sum_often, uses_often, often_uses, some_weight, limited_wide}
use Rattle.fairness.proofs.Fairness.MaxMin.{at_most_by_parts, below_by_parts, above_by_parts}

-- ---- amounts

-- a limited flow that gets less than its amount, which is for each one of its weight no greater than the given flow's
record Pays (sides : List Side) (weights : List ℕ) (per : ℕ) (parts : ℕ → ℕ) (other_per : ℕ) (other : ℕ → ℕ)
    (flow : ℕ) : Type 0 where
  payer : ℕ
  limited : IsLimited sides payer
  no_greater : parts payer ≤ parts flow
  loses : other payer * per < by_weight weights parts payer * other_per

module _ (sides : List Side) (weights : List ℕ) (positive : (u : ℕ) → u < length weights → 0 < weight_at weights u)
    (among : HaveUsersBelow (length weights) sides) (D : ℕ) (a : ℕ → ℕ)
    (fair : IsFair (map (weighted weights) sides) D a) (E : ℕ) (b : ℕ → ℕ) (within : IsWithinCaps sides E b) where
  -- where a flow on a full side gets more
  on_side : (side : Side) → Contains sides side → load a (weighted weights side) ≡ side.cap * D
      → (i : ℕ) → All (λ j. a j ≤ a i) (as_often weights side.users) → Contains side.users i
      → by_weight weights a i * E < b i * D → Pays sides weights D a E b i
  on_side side listed full i greatest used more =
      elim (at_most_or_more (λ j. by_weight weights a j * E) (λ j. b j * D) side.users) [
        | inl all ↦
            let less =
            sum_by-under (λ j. by_weight weights a j * E) (λ j. b j * D) side.users i used all more in
            let cap =
            mul-le-mul_right D (All-contains (λ (s : Side). load b s ≤ s.cap * E) sides side within listed) in
            absurd (omega (
              arith,
              less,
              cap,
              sum_by-scaled (by_weight weights a) E side.users,
              sum_by-scaled b D side.users,
              ap (λ n. n * E) full,
              ap (λ n. n * E) (sum_often weights a side.users),
            ))
        | inr (j, uses, loses) ↦ record {
          payer = j;
          limited = (side, record { listed = listed; used = uses });
          no_greater = All-contains (λ j. a j ≤ a i) (as_often weights side.users) j greatest
              (often_uses weights side.users j (some_weight weights sides positive among side listed j uses) uses);
          loses = loses;
        }
      ]

  pays : (i : ℕ) → IsLimited sides i → by_weight weights a i * E < b i * D → Pays sides weights D a E b i
  pays i limited more =
      let h = fair.held i (limited_wide weights sides positive among i limited) in
      let from = listed_from (weighted weights) sides h.side h.uses.listed in
      let is : h.side ≡ weighted weights from.0 = sym from.2 in
      on_side from.0 from.1 (subst (λ (s : Side). load a s ≡ s.cap * D) is h.full) i
      (subst (λ (s : Side). All (λ j. a j ≤ a i) s.users) is h.greatest)
      (uses_often weights from.0.users i (subst (λ (s : Side). Contains s.users i) is h.uses.used)) more

-- ---- rates

module _ (sides : List Side) (weights : List ℕ) (rates : List Rate) (f : AreWeightedRates sides weights rates) where
  rate_at : (flow : ℕ) (r : Rate) → slice_get rates flow ≡ Some r
      → IsRateOf sides f.per (by_weight weights f.parts) flow r
  rate_at flow r has =
      grind (arith, common_steps, slice_get_within rates flow r has, get_or_from_slice_get rates flow r r has)

  -- a limited flow has a finite rate
  record HasFinite (flow : ℕ) : Type 0 where
    rate : Ratio
    has : HasRate rates flow rate
    worth : rate.numerator * f.per ≡ by_weight weights f.parts flow * rate.denominator

  finite_of : (flow : ℕ) → flow < length weights → IsLimited sides flow → HasFinite flow
  finite_of flow within limited =
      by_rate (get_or rates flow Unlimited) (slice_get-get_or rates flow Unlimited (omega (arith, within, f.one_each)))
    where
      by_rate : (r : Rate) → slice_get rates flow ≡ Some r → HasFinite flow
      by_rate Unlimited has = absurd (rate_at flow Unlimited has limited)
      by_rate (Finite ratio) has = record { rate = ratio; has = has; worth = (rate_at flow (Finite ratio) has).1 }

pub max_min_by_weight : RatesByWeightAreMaxMin
max_min_by_weight sides weights rates some users f E b within i r has more =
    let positive : (u : ℕ) → u < length weights → 0 < weight_at weights u = λ u inside. some u 0 inside in
    let is = rate_at sides weights rates f i (Finite r) has in
    let paid =
    pays sides weights positive users f.per f.parts f.fair E b within i is.0
    (above_by_parts r.numerator r.denominator (by_weight weights f.parts i) f.per (b i) E f.fair.some_part is.1 more) in
    let small =
    All-contains (λ j. j < length weights) paid.limited.0.users paid.payer
    (All-contains (λ (s : Side). All (λ j. j < length weights) s.users) sides paid.limited.0 users
    paid.limited.1.listed) paid.limited.1.used in
    let own = finite_of sides weights rates f paid.payer small paid.limited in
    record {
      payer = paid.payer;
      own = own.rate;
      has = own.has;
      no_greater =
          at_most_by_parts own.rate.numerator (own.rate.denominator * weight_at weights paid.payer) r.numerator
          (r.denominator * weight_at weights i) (f.parts paid.payer) (f.parts i) f.per f.fair.some_part
          (omega (arith, own.worth)) (omega (arith, is.1)) paid.no_greater;
      loses =
          below_by_parts own.rate.numerator own.rate.denominator (by_weight weights f.parts paid.payer) f.per
          (b paid.payer) E own.rate.positive own.worth paid.loses;
    }
