-- Who gets more than a fair rate takes it from a flow whose fair rate is no greater.
use Rattle.fairness.proofs.Common.{◌≡◌, ℕ, ◌*◌, ◌<◌, ◌≤◌, inl, inr, List, Some, get_or, All, ap, arith}
use Rattle.fairness.proofs.Common.{mul-le-mul_right, slice_get, lt_of_mul-lt-mul_right, le_of_mul-le-mul_right}
use Rattle.fairness.proofs.Common.{All-contains, Rate, Unlimited, Finite, Ratio, Side, load, IsLimited, IsRateOf}
use Rattle.fairness.proofs.Common.{AreFairRates, common_steps, rules}
use Rattle.std.proofs.Math.Nat.{mul-lt-mul_of_pos_right}
use Rattle.std.proofs.lemmas.Option.{slice_get-get_or, slice_get_within, get_or_from_slice_get}
use Rattle.fairness.specs.Fairness.Laws.{HasRate, FairIsMaxMin, FairRatesAreMaxMin}
use Rattle.fairness.proofs.Lists.SumOrder.{sum_by-scaled, sum_by-under, at_most_or_more}

pub fair_is_max_min : FairIsMaxMin
fair_is_max_min sides D a fair E b within i limited more =
    let h = fair.held i limited in
    let users = h.side.users in
    elim (at_most_or_more (λ j. a j * E) (λ j. b j * D) users) [
      | inl all ↦
          let less = sum_by-under (λ j. a j * E) (λ j. b j * D) users i h.uses.used all more in
          let cap = mul-le-mul_right D (All-contains (λ s. load b s ≤ s.cap * E) sides h.side within h.uses.listed) in
          absurd (omega (arith, less, cap, sum_by-scaled a E users, sum_by-scaled b D users, ap (λ n. n * E) h.full))
      | inr (j, used, loses) ↦ record {
        payer = j;
        limited = (h.side, record { listed = h.uses.listed; used = used });
        no_greater = All-contains (λ j. a j ≤ a i) users j h.greatest used;
        loses = loses;
      }
    ]

-- ---- rates

module _ (sides : List Side) (flows : ℕ) (rates : List Rate) (f : AreFairRates sides flows rates) where
  pub rate_at : (flow : ℕ) (r : Rate) → slice_get rates flow ≡ Some r → IsRateOf sides f.per f.parts flow r
  rate_at flow r has =
      grind (arith, common_steps, slice_get_within rates flow r has, get_or_from_slice_get rates flow r r has)

  -- a limited flow has a finite rate
  pub record HasFinite (flow : ℕ) : Type 0 where
    pub rate : Ratio
    pub has : HasRate rates flow rate
    pub worth : rate.numerator * f.per ≡ f.parts flow * rate.denominator

  pub finite_of : (flow : ℕ) → flow < flows → IsLimited sides flow → HasFinite flow
  finite_of flow within limited =
      by_rate (get_or rates flow Unlimited) (slice_get-get_or rates flow Unlimited (omega (arith, within, f.one_each)))
    where
      by_rate : (r : Rate) → slice_get rates flow ≡ Some r → HasFinite flow
      by_rate Unlimited has = absurd (rate_at flow Unlimited has limited)
      by_rate (Finite ratio) has = record { rate = ratio; has = has; worth = (rate_at flow (Finite ratio) has).1 }

-- n / d is p / per, and p is no greater than q, which is that of m / e
pub at_most_by_parts : (n d m e p q per : ℕ) → 0 < per → n * per ≡ p * d → m * per ≡ q * e → p ≤ q → n * e ≤ m * d
at_most_by_parts n d m e p q per pos first second le =
    let scaled : p * (d * e) ≤ q * (d * e) = mul-le-mul_right (d * e) le in
    let both : n * e * per ≤ m * d * per = omega (arith, scaled, ap (λ k. k * e) first, ap (λ k. k * d) second) in
    le_of_mul-le-mul_right both pos

-- n / d is p / per: what is below the one is below the other
pub below_by_parts : (n d p per x other : ℕ) → 0 < d → n * per ≡ p * d → x * per < p * other → x * d < n * other
below_by_parts n d p per x other pos e less =
    let scaled : x * per * d < p * other * d = mul-lt-mul_of_pos_right less pos in
    lt_of_mul-lt-mul_right per (omega (arith, scaled, ap (λ k. k * other) e))

pub above_by_parts : (n d p per x other : ℕ) → 0 < per → n * per ≡ p * d → n * other < x * d → p * other < x * per
above_by_parts n d p per x other pos e more =
    let scaled : n * other * per < x * d * per = mul-lt-mul_of_pos_right more pos in
    lt_of_mul-lt-mul_right d (omega (arith, scaled, ap (λ k. k * other) e))

pub fair_rates_are_max_min : FairRatesAreMaxMin
fair_rates_are_max_min sides flows rates users f E b within i r has more =
    let is = rate_at sides flows rates f i (Finite r) has in
    let pays =
    fair_is_max_min sides f.per f.parts f.fair E b within i is.0
    (above_by_parts r.numerator r.denominator (f.parts i) f.per (b i) E f.fair.some_part is.1 more) in
    let side = pays.limited.0 in
    let u = pays.limited.1 in
    let small =
    All-contains (λ j. j < flows) side.users pays.payer
    (All-contains (λ s. All (λ j. j < flows) s.users) sides side users u.listed) u.used in
    let own = finite_of sides flows rates f pays.payer small pays.limited in
    record {
      payer = pays.payer;
      own = own.rate;
      has = own.has;
      no_greater = search (rules, at_most_by_parts);
      loses = search (rules, below_by_parts);
    }
