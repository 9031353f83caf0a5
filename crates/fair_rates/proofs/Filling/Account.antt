-- How an open side keeps account of a side.
use Rattle.fair_rates.proofs.Common.{IsPermutation, ◌≡◌, ℕ, ◌+◌, ◌*◌, ◌<◌, ◌≤◌, inl, inr, List, [], ◌∷◌, ◌++◌, length, get_or, All}
use Rattle.fair_rates.proofs.Common.{sum_by, Option, Some, IsSome, sym, ap, subst, ◌∙◌, arith, mul-le-mul_right}
use Rattle.fair_rates.proofs.Common.{cases_lt, All-nil, All-head, All-push, All-tail, All-append, All-weaker}
use Rattle.fair_rates.proofs.Common.{IsPermutation-refl, IsPermutation-sym, All-permutation, sum_by-cons, Side, load}
use Rattle.fair_rates.proofs.Common.{at_level, AllRise, AllFrozen, IsWithinSlack, HaveNoMore, KeepsAccount, rules}
use Rattle.fair_rates.proofs.Common.{common_steps}
use Rattle.std.proofs.Common.{le_of_mul-le-mul_right}
use Rattle.std.specs.Prelude.{swap_remove}
use Rattle.std.proofs.lemmas.List.Sorted.{IsPermutation-pop_more, IsPermutation-swap_remove, sum_by-IsPermutation}
use Rattle.std.proofs.lemmas.List.Sums.{sum_by-append}
use Rattle.fairness.proofs.Filling.Frozen.{none_or_some, some_is, at_some, at_none, at_any}
use Rattle.fairness.proofs.Lists.Sums.{sum_by_same}

-- ---- of a share

-- and then no share is lower
pub still_within : (parts had slack rest n m : ℕ) → m + 1 ≡ n → rest + had ≡ slack → parts * n ≤ slack → had * n ≤ slack
    → parts * m ≤ rest
still_within parts had slack rest n m fewer left le had_le =
    let e : parts * n ≡ parts * m + parts = omega (arith, ap (λ k. parts * k) fewer) in
    let e' : had * n ≡ had * m + had = omega (arith, ap (λ k. had * k) fewer) in
    elim (cases_lt had parts) [
      | inl lt ↦ omega (arith, e, lt, le, left)
      | inr ge ↦ let under : parts * m ≤ had * m = mul-le-mul_right m ge in omega (arith, e', under, had_le, left)
    ]

-- ---- of an account

-- before any user is frozen
pub account_start : (side : Side) (scale : ℕ) (frozen : ℕ → Option ℕ) (slack : ℕ) (rising : List ℕ)
    → slack ≡ side.cap * scale → side.users ≡ rising → KeepsAccount side scale frozen slack rising
account_start side scale frozen slack rising all users = search (rules, IsPermutation-refl, All-nil)

module _ (side : Side) (scale : ℕ) (frozen : ℕ → Option ℕ) (slack : ℕ) (rising : List ℕ)
    (account : KeepsAccount side scale frozen slack rising) where
  -- what a side carries is what the counted and the other users have
  pub load_parted : (parts : ℕ → ℕ) → load parts side ≡ sum_by parts account.counted + sum_by parts rising
  load_parted parts =
      sym (sum_by-IsPermutation parts side.users (account.counted ++ rising) account.parted)
      ∙ sum_by-append parts account.counted rising

  -- one of the others is frozen: it is counted now
  pub account_more : (i user parts rest : ℕ) (later : List ℕ) → i < length rising → user ≡ get_or rising i user
      → frozen user ≡ Some parts → rest + parts ≡ slack
      → later ≡ swap_remove rising i user → KeepsAccount side scale frozen rest later
  account_more i user parts rest later inside is_user is_frozen left removed = record {
    counted = account.counted ++ user ∷ [];
    parted = subst (λ xs. IsPermutation side.users ((account.counted ++ user ∷ []) ++ xs)) (sym removed)
        (IsPermutation-pop_more side.users account.counted rising (swap_remove rising i user) user account.parted
        (IsPermutation-swap_remove rising i user inside is_user));
    done = All-push (λ j. IsSome (frozen j)) account.counted user account.done (some_is (frozen user) parts is_frozen);
    left = omega (
      arith,
      sum_by-append (at_level frozen 0) account.counted (user ∷ []),
      sum_by-cons (at_level frozen 0) user [],
      at_some frozen 0 user parts is_frozen,
      left,
      account.left,
    );
  }

  -- the others are frozen, too: all are
  pub all_counted : AllFrozen frozen rising → AllFrozen frozen side.users
  all_counted others =
      All-permutation (λ flow. IsSome (frozen flow)) (account.counted ++ rising) side.users
      (IsPermutation-sym side.users (account.counted ++ rising) account.parted)
      (All-append (λ flow. IsSome (frozen flow)) account.counted rising account.done others)

  -- what the counted users have does not depend on the level
  counted_at : (level : ℕ) → sum_by (at_level frozen level) account.counted ≡ sum_by (at_level frozen 0) account.counted
  counted_at level = search (rules, sum_by_same, All-weaker, at_any)

-- so many amounts of at most the share are no more than what is shared
sum_within : (f : ℕ → ℕ) (slack n : ℕ) (users : List ℕ) → All (λ j. f j * n ≤ slack) users
    → sum_by f users * n ≤ slack * length users
sum_within f slack n [] all = omega arith
sum_within f slack n (j ∷ users) all =
    let more : sum_by f (j ∷ users) * n ≡ f j * n + sum_by f users * n =
    omega (arith, ap (λ k. k * n) (sum_by-cons f j users)) in
    omega (
      arith,
      more,
      All-head (λ j. f j * n ≤ slack) j users all,
      sum_within f slack n users (All-tail (λ j. f j * n ≤ slack) j users all),
    )

-- where all have the share, it is what is shared
sum_even : (f : ℕ → ℕ) (level : ℕ) (users : List ℕ) → All (λ j. f j ≡ level) users
    → sum_by f users ≡ level * length users
sum_even f level [] all = omega arith
sum_even f level (j ∷ users) all =
    omega (
      arith,
      sum_by-cons f j users,
      All-head (λ j. f j ≡ level) j users all,
      sum_even f level users (All-tail (λ j. f j ≡ level) j users all),
    )

module _ (side : Side) (scale : ℕ) (frozen : ℕ → Option ℕ) (slack : ℕ) (rising : List ℕ)
    (account : KeepsAccount side scale frozen slack rising) (level : ℕ) where
  -- where its rising users stand at a level within the share, the side carries no more than its cap
  pub has_room : 0 < length rising → IsWithinSlack level slack rising → HaveNoMore frozen slack rising
      → load (at_level frozen level) side ≤ side.cap * scale
  has_room some within no_more =
      let each : All (λ j. at_level frozen level j * length rising ≤ slack) rising =
      search (rules, All-weaker, none_or_some, at_none, at_any, some_is) in
      let total : sum_by (at_level frozen level) rising ≤ slack = search (rules, le_of_mul-le-mul_right, sum_within) in
      omega (
        arith,
        load_parted side scale frozen slack rising account (at_level frozen level),
        counted_at side scale frozen slack rising account level,
        total,
        account.left,
      )

  -- where they stand at the share, it is full
  pub is_full : AllRise frozen rising → level * length rising ≡ slack
      → load (at_level frozen level) side ≡ side.cap * scale
  is_full rise exact =
      grind (
        arith,
        common_steps,
        load_parted side scale frozen slack rising account (at_level frozen level),
        counted_at side scale frozen slack rising account level,
        sum_even,
        All-weaker,
        at_none,
      )

-- who rises has nothing yet
pub risers_have_no_more : (frozen : ℕ → Option ℕ) (slack : ℕ) (users : List ℕ) → AllRise frozen users
    → HaveNoMore frozen slack users
risers_have_no_more frozen slack users rise = search (rules, All-weaker, at_none)

-- the users that are left keep what holds of all
pub rest_of : (P : ℕ → Type 0) (users rest : List ℕ) (i user : ℕ) → i < length users → user ≡ get_or users i user
    → rest ≡ swap_remove users i user → All P users → All P rest
rest_of P users rest i user inside is_user is_rest all =
    subst (All P) (sym is_rest) (All-tail P user (swap_remove users i user)
    (All-permutation P users (user ∷ swap_remove users i user) (IsPermutation-swap_remove users i user inside is_user)
    all))
