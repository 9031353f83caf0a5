-- The example of a shared cap.
use Rattle.fair_laws.proofs.Common.{◌≤◌, load, ◌≡◌, ℕ, zero, suc, ◌*◌, ◌<◌, [], ◌∷◌, Contains, get_or, refl, sym, ap}
use Rattle.fair_laws.proofs.Common.{subst, arith, eq_of_mul-eq-mul_right, Rate, Unlimited, Finite, Ratio, Side}
use Rattle.fair_laws.proofs.Common.{IsLimited, IsFair, IsRateOf}
use Rattle.std.proofs.Math.Nat.{eq-one_of_dvd-one}
use Rattle.fairness.specs.Fairness.Example.{shared, IsHalf, AreFairForThree, HalfExists, HalvesAreFair, LessIsUnfair}
use Rattle.fairness.specs.Fairness.Example.{MoreIsUnfair, NoLimitIsUnfair, LimitIsUnfair}
use Rattle.fairness.proofs.Lists.SumOrder.{All-from_contains}
use Rattle.fairness.proofs.Fairness.OneAllocation.{same_amounts}

-- the one side
abbrev side : Side
side = record { cap = 1; users = 0 ∷ 1 ∷ [] }

-- the one member of a list of one
only : {X : Type 0} (x y : X) → Contains (x ∷ []) y → y ≡ x
only x y (zero, l, e) = sym e
only x y (suc k, l, e) = absurd (omega arith)

-- a member of a list of two
below_two : (y : ℕ) → Contains (0 ∷ 1 ∷ []) y → y < 2
below_two y (zero, l, e) = omega (arith, e)
below_two y (suc zero, l, e) = omega (arith, e)
below_two y (suc (suc k), l, e) = absurd (omega arith)

uses : (flow : ℕ) → IsLimited shared flow → Contains side.users flow
uses flow (s, u) = subst (λ s. Contains s.users flow) (only side s u.listed) u.used

first_uses : IsLimited shared 0
first_uses = (side, record { listed = (0, omega arith, refl); used = (0, omega arith, refl) })

second_uses : IsLimited shared 1
second_uses = (side, record { listed = (0, omega arith, refl); used = (1, omega arith, refl) })

third_uses_none : ¬ IsLimited shared 2
third_uses_none limited = let past : 2 < 2 = below_two 2 (uses 2 limited) in omega arith

-- each gets one part of two
abbrev one : ℕ → ℕ
one flow = 1

one_is_fair : IsFair shared 2 one
one_is_fair = record {
  some_part = omega arith;
  within = All-from_contains (λ s. load one s ≤ s.cap * 2) shared (λ s c. rw (only side s c) (omega arith));
  held = λ flow limited. record {
    side = side;
    uses = record { listed = (0, omega arith, refl); used = uses flow limited };
    full = refl;
    greatest = λ k d l. omega arith;
  };
}

rated : (r s : Ratio) → IsHalf r → IsHalf s → (k : ℕ) (d : Rate) → k < 3
    → IsRateOf shared 2 one k (get_or (Finite r ∷ Finite s ∷ Unlimited ∷ []) k d)
rated r s e f zero d l = (first_uses, e)
rated r s e f (suc zero) d l = (second_uses, f)
rated r s e f (suc (suc zero)) d l = third_uses_none
rated r s e f (suc (suc (suc k))) d l = absurd (omega arith)

pub half_exists : HalfExists
half_exists = (
  record { numerator = 1; denominator = 2; positive = omega arith; reduced = λ k one two. eq-one_of_dvd-one one },
  refl,
)

pub halves_are_fair : HalvesAreFair
halves_are_fair r s e f = record { one_each = refl; per = 2; parts = one; fair = one_is_fair; rated = rated r s e f }

-- a fair rate of the first is a half
first_is_half : (r s : Ratio) → AreFairForThree (Finite r) (Finite s) Unlimited → IsHalf r
first_is_half r s f =
    let is = f.rated 0 Unlimited (omega arith) in
    let same = same_amounts shared f.per 2 f.parts one f.fair one_is_fair 0 first_uses in
    let scaled : r.numerator * 2 * f.per ≡ 1 * r.denominator * f.per =
    omega (arith, ap (λ n. n * 2) is.1, ap (λ n. n * r.denominator) same) in
    eq_of_mul-eq-mul_right f.per f.fair.some_part (r.numerator * 2) (1 * r.denominator) scaled

pub less_is_unfair : LessIsUnfair
less_is_unfair r s less f = omega (arith, less, first_is_half r s f)

pub more_is_unfair : MoreIsUnfair
more_is_unfair r s more f = omega (arith, more, first_is_half r s f)

pub no_limit_is_unfair : NoLimitIsUnfair
no_limit_is_unfair s f = f.rated 0 Unlimited (omega arith) first_uses

pub limit_is_unfair : LimitIsUnfair
limit_is_unfair r s t f = third_uses_none (f.rated 2 Unlimited (omega arith)).0
