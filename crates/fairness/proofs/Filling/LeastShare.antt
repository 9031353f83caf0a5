-- The least of the shares of some sides, if a user of one rises.
use Rattle.fairness.proofs.Common.{◌≡◌, ℕ, zero, suc, ◌*◌, ◌<◌, ◌≤◌, ◌⊎◌, inl, inr, List, [], ◌∷◌, All, Contains}
use Rattle.fairness.proofs.Common.{refl, ap, arith, le_refl, le_of_mul-le-mul_right, cases_lt, All-nil, All-cons}
use Rattle.fairness.proofs.Common.{All-weaker, Contains-append_left, Contains-append_right, rules}
use Rattle.std.proofs.Math.Nat.{mul-le-mul_right}

-- of those with a count above zero this one has the least amount for each
pub record IsLeastOf {X : Type 0} (amount count : X → ℕ) (xs : List X) : Type 0 where
  pub least : X
  pub listed : Contains xs least
  pub some : 0 < count least
  pub below : All (λ x. amount least * count x ≤ amount x * count least) xs

-- a/k is less than or equal to b/l, which is so to c/m
pub at_most_trans : (a k b l c m : ℕ) → 0 < l → a * l ≤ b * k → b * m ≤ c * l → a * m ≤ c * k
at_most_trans a k b l c m some first second =
    le_of_mul-le-mul_right {k = l} (omega (arith, mul-le-mul_right m first, mul-le-mul_right k second)) some

none_below : (a k b l : ℕ) → l ≡ 0 → a * l ≤ b * k
none_below a k b l e = omega (arith, ap (λ n. a * n) e)

pub least_of : {X : Type 0} (amount count : X → ℕ) (xs : List X) → All (λ x. count x ≡ 0) xs ⊎ IsLeastOf amount count xs
least_of amount count [] = inl (All-nil _)
least_of amount count (x ∷ xs) =
    let here : Contains (x ∷ xs) x = Contains-append_left (x ∷ []) xs x (0, omega arith, refl) in
    elim (least_of amount count xs) [
      | inl none ↦ elim (cases_lt 0 (count x)) [
        | inr le ↦ inl (All-cons (λ y. count y ≡ 0) x xs (omega arith) none)
        | inl some ↦ inr (record {
          least = x;
          listed = here;
          some = some;
          below = search (rules, All-cons, le_refl, All-weaker, none_below);
        })
      ]
      | inr l ↦ elim (cases_lt (amount x * count l.least) (amount l.least * count x)) [
        | inl less ↦ inr (record {
          least = x;
          listed = here;
          some = positive (amount l.least) (count x) (omega arith);
          below = All-cons (λ y. amount x * count y ≤ amount y * count x) x xs (le_refl (amount x * count x))
              (All-weaker (λ y. amount l.least * count y ≤ amount y * count l.least)
              (λ y. amount x * count y ≤ amount y * count x) (λ y le. at_most_trans (amount x) (count x)
              (amount l.least) (count l.least) (amount y) (count y) l.some (omega arith) le) xs l.below);
        })
        | inr le ↦ inr (record {
          least = l.least;
          listed = Contains-append_right (x ∷ []) xs l.least l.listed;
          some = l.some;
          below = All-cons (λ y. amount l.least * count y ≤ amount y * count l.least) x xs le l.below;
        })
      ]
    ]
  where
    positive : (a k : ℕ) → 0 < a * k → 0 < k
    positive a zero h = absurd (omega arith)
    positive a (suc k) h = omega arith
