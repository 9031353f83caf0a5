-- A rate is zero at a cap of zero, and nowhere else.
use Rattle.fairness.proofs.Common.{◌≡◌, ℕ, ◌*◌, ◌≤◌, List, Contains, sum_by, subst, ap, arith, eq_of_mul-eq-mul_right}
use Rattle.fairness.proofs.Common.{All-contains, get_or-le-sum_by, Finite, Side, load, IsLimited, IsFair, rules}
use Rattle.fairness.specs.Fairness.Laws.{UsesClosedSide, FairRatesAreZeroWhereClosed}
use Rattle.fairness.proofs.Lists.SumOrder.{All-from_contains, sum_by-zero}
use Rattle.fairness.proofs.Fairness.MaxMin.{rate_at}

-- a member is at most the sum
pub member_at_most : (f : ℕ → ℕ) (xs : List ℕ) (x : ℕ) → Contains xs x → f x ≤ sum_by f xs
member_at_most f xs x c = subst (λ y. f y ≤ sum_by f xs) c.2 (get_or-le-sum_by f xs c.0 x c.1)

closed_is_zero : (sides : List Side) (per : ℕ) (parts : ℕ → ℕ) → IsFair sides per parts → (flow : ℕ)
    → UsesClosedSide sides flow → parts flow ≡ 0
closed_is_zero sides per parts f flow u =
    let within = All-contains (λ s. load parts s ≤ s.cap * per) sides u.side f.within u.uses.listed in
    let own = member_at_most parts u.side.users flow u.uses.used in
    omega (arith, within, own, ap (λ n. n * per) u.closed)

zero_is_closed : (sides : List Side) (per : ℕ) (parts : ℕ → ℕ) → IsFair sides per parts → (flow : ℕ)
    → IsLimited sides flow → parts flow ≡ 0 → UsesClosedSide sides flow
zero_is_closed sides per parts f flow limited none =
    let h = f.held flow limited in
    let users = h.side.users in
    let all_none =
    All-from_contains (λ j. parts j ≡ 0) users
    (λ j used. omega (arith, none, All-contains (λ j. parts j ≤ parts flow) users j h.greatest used)) in
    let nothing : load parts h.side ≡ 0 = sum_by-zero parts users all_none in
    let product : h.side.cap * per ≡ 0 * per = omega (arith, nothing, h.full) in
    record { side = h.side; uses = h.uses; closed = eq_of_mul-eq-mul_right per f.some_part h.side.cap 0 product }

pub fair_rates_are_zero_where_closed : FairRatesAreZeroWhereClosed
fair_rates_are_zero_where_closed sides flows rates f flow r has =
    let is = rate_at sides flows rates f flow (Finite r) has in (
      (λ none.
          let product : f.parts flow * r.denominator ≡ 0 * r.denominator = search rules in
          zero_is_closed sides f.per f.parts f.fair flow is.0
          (eq_of_mul-eq-mul_right r.denominator r.positive (f.parts flow) 0 product)),
      (λ closed.
          let product : r.numerator * f.per ≡ 0 * f.per =
          omega (arith, is.1, ap (λ n. n * r.denominator) (closed_is_zero sides f.per f.parts f.fair flow closed)) in
          eq_of_mul-eq-mul_right f.per f.fair.some_part r.numerator 0 product),
    )
