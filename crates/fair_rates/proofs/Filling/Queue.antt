-- The queue of open sides, as the one with the least share is taken out and another put in.
use Rattle.fair_rates.proofs.Common.{◌≡◌, ℕ, ◌*◌, ◌<◌, ◌≤◌, ◌⊎◌, inl, inr, List, [], ◌∷◌, ◌++◌, length, map, All}
use Rattle.fair_rates.proofs.Common.{Contains, Option, refl, sym, subst, arith, IsPermutation, IsHeap, nat_cmp, is_lt}
use Rattle.fair_rates.proofs.Common.{Reverse, cases_lt, All-nil, All-head, All-tail, All-cons, All-weaker}
use Rattle.fair_rates.proofs.Common.{All-contains, Contains-append_left, Contains-append_right}
use Rattle.fair_rates.proofs.Common.{All-permutation, Contains-permutation, IsPermutation-refl, IsPermutation-sym, Side}
use Rattle.fair_rates.proofs.Common.{AllFrozen, KeepsAccount, IsOpen, IsCovered, IsQueue, IsShareQueue, HaveNoMore}
use Rattle.fair_rates.proofs.Common.{AreAbove, IsWithinSlack, AllFilled, AreOpened, queue_cmp, side_of, OpenSide, rules}
use Rattle.std.specs.BinaryHeap.{IsUpperBound}
use Rattle.std.specs.Prelude.{false}
use Rattle.std.proofs.lemmas.List.Elements.{All-from_recursion, Contains-append_cases, Contains-push_cases}
use Rattle.std.proofs.lemmas.List.Sorted.{IsPermutation-push_more}
use Rattle.fair_rates.specs.declared.bandwidth.sides.Side as declared
use Rattle.fair_rates.proofs.Filling.Account.{account_start, all_counted}
use Rattle.fair_rates.proofs.Common.{IsSome, mul-le-mul_right}
use Rattle.std.proofs.Common.{le_of_mul-le-mul_right}
use Rattle.fair_rates.specs.Filling.States.{HaveNoLessShare}

-- ---- lists

pub first_or_later : {X : Type 0} (x y : X) (rest : List X) → Contains (x ∷ rest) y → (x ≡ y) ⊎ Contains rest y
first_or_later x y rest c = search (rules, Contains-append_cases, Contains-push_cases)

pub is_first : {X : Type 0} (x : X) (rest : List X) → Contains (x ∷ rest) x
is_first x rest = Contains-append_left (x ∷ []) rest x (0, omega arith, refl)

pub is_later : {X : Type 0} (x y : X) (rest : List X) → Contains rest y → Contains (x ∷ rest) y
is_later x y rest c = Contains-append_right (x ∷ []) rest y c

-- ---- the order

not_less : (a b : ℕ) → is_lt (nat_cmp a b) ≡ false → b ≤ a
not_less a b e = search (rules, cases_lt)

-- the share on top is the least
pub least_first : (x : Reverse OpenSide) (rest : List (Reverse OpenSide)) → IsUpperBound queue_cmp x rest
    → All (λ o. x.0.slack * length o.0.rising.items ≤ o.0.slack * length x.0.rising.items) rest
least_first x rest upper = search (rules, All-weaker, not_less, All-from_recursion)

least_trans : (a n b m c k : ℕ) → 0 < m → a * m ≤ b * n → b * k ≤ c * m → a * k ≤ c * n
least_trans a n b m c k some first second =
    le_of_mul-le-mul_right {k = m} (omega (arith, mul-le-mul_right k first, mul-le-mul_right n second)) some

-- who is no greater than the least is the least, too
pub least_before : (x y : OpenSide) (rest : List (Reverse OpenSide))
    → x.slack * length y.rising.items ≤ y.slack * length x.rising.items → HaveNoLessShare y rest
    → HaveNoLessShare x rest
least_before x y rest le least =
    All-weaker (λ (o : Reverse OpenSide). y.slack * length o.0.rising.items ≤ o.0.slack * length y.rising.items)
    (λ (o : Reverse OpenSide). x.slack * length o.0.rising.items ≤ o.0.slack * length x.rising.items)
    (λ o. least_trans x.slack (length x.rising.items) y.slack (length y.rising.items) o.0.slack
    (length o.0.rising.items) y.some le) rest least

-- ---- accounts

module _ (scale : ℕ) (frozen : ℕ → Option ℕ) where
  -- the side is covered by whatever has that open side
  pub covered_by : (xs ys : List (Reverse OpenSide)) (side : Side)
      → ((o : Reverse OpenSide) → Contains xs o → Contains ys o) → IsCovered scale frozen xs side
      → IsCovered scale frozen ys side
  covered_by xs ys side more (inl all) = inl all
  covered_by xs ys side more (inr (o, c, account)) = inr (o, more o c, account)

  module _ (sides : List Side) where
    pub queue_permuted : (xs ys : List (Reverse OpenSide)) → IsPermutation xs ys → IsQueue sides scale frozen xs
        → IsQueue sides scale frozen ys
    queue_permuted xs ys perm queue = search (rules, All-permutation, All-weaker, covered_by, Contains-permutation)

    -- the first open side has counted more
    pub queue_counted : (x new : Reverse OpenSide) (rest : List (Reverse OpenSide))
        → ((side : Side) → KeepsAccount side scale frozen x.0.slack x.0.rising.items
        → KeepsAccount side scale frozen new.0.slack new.0.rising.items) → IsQueue sides scale frozen (x ∷ rest)
        → IsQueue sides scale frozen (new ∷ rest)
    queue_counted x new rest keeps queue =
        let first = All-head (IsOpen sides scale frozen) x rest queue.each in
        record {
          each = search (rules, All-cons, All-tail);
          covered =
              All-weaker (IsCovered scale frozen (x ∷ rest)) (IsCovered scale frozen (new ∷ rest)) again sides
              queue.covered;
        }
      where
        again : (side : Side) → IsCovered scale frozen (x ∷ rest) side → IsCovered scale frozen (new ∷ rest) side
        again side (inl all) = inl all
        again side (inr (o, c, account)) = elim (first_or_later x o rest c) [
          | inl same ↦ inr (
            new,
            is_first new rest,
            keeps side
                (subst (λ (p : Reverse OpenSide). KeepsAccount side scale frozen p.0.slack p.0.rising.items) (sym same)
                account),
          )
          | inr later ↦ inr (o, is_later new o rest later, account)
        ]

    -- all users of the first are frozen
    pub queue_filled : (x : Reverse OpenSide) (rest : List (Reverse OpenSide))
        → ((side : Side) → KeepsAccount side scale frozen x.0.slack x.0.rising.items → AllFrozen frozen side.users)
        → IsQueue sides scale frozen (x ∷ rest) → IsQueue sides scale frozen rest
    queue_filled x rest all queue = record {
      each = All-tail (IsOpen sides scale frozen) x rest queue.each;
      covered = All-weaker (IsCovered scale frozen (x ∷ rest)) (IsCovered scale frozen rest) again sides queue.covered;
    }
      where
        again : (side : Side) → IsCovered scale frozen (x ∷ rest) side → IsCovered scale frozen rest side
        again side (inl frozen_all) = inl frozen_all
        again side (inr (o, c, account)) = elim (first_or_later x o rest c) [
          | inl same ↦ inl
              (all side
              (subst (λ (p : Reverse OpenSide). KeepsAccount side scale frozen p.0.slack p.0.rising.items) (sym same)
              account))
          | inr later ↦ inr (o, later, account)
        ]

    -- all flows are frozen
    pub filled_once_frozen : (flows : ℕ) (opens : List (Reverse OpenSide))
        → All (λ o. All (λ flow. flow < flows) o.0.rising.items) opens
        → ((flow : ℕ) → flow < flows → IsSome (frozen flow)) → IsQueue sides scale frozen opens → AllFilled sides frozen
    filled_once_frozen flows opens users all queue =
        All-weaker (IsCovered scale frozen opens) (λ side. AllFrozen frozen side.users) only sides queue.covered
      where
        only : (side : Side) → IsCovered scale frozen opens side → AllFrozen frozen side.users
        only side (inl frozen_all) = frozen_all
        only side (inr (o, c, account)) =
            all_counted side scale frozen o.0.slack o.0.rising.items account
            (All-weaker (λ flow. flow < flows) (λ flow. IsSome (frozen flow)) all o.0.rising.items
            (All-contains (λ (p : Reverse OpenSide). All (λ flow. flow < flows) p.0.rising.items) opens o users c))

    -- no open side is left
    pub all_filled : (opens : List (Reverse OpenSide)) → length opens ≡ 0 → IsQueue sides scale frozen opens
        → AllFilled sides frozen
    all_filled opens none queue =
        All-weaker (IsCovered scale frozen opens) (λ side. AllFrozen frozen side.users) only sides queue.covered
      where
        only : (side : Side) → IsCovered scale frozen opens side → AllFrozen frozen side.users
        only side (inl all) = all
        only side (inr (o, c, account)) = absurd (omega (arith, none, c.1))

    -- ---- one side more

    listed_more : (side : Side) (o : Reverse OpenSide) → IsOpen sides scale frozen o
        → IsOpen (side ∷ sides) scale frozen o
    listed_more side o (other, listed, account) = (other, is_later side other sides listed, account)

    pub queue_more : (side : Side) (x : Reverse OpenSide) (opens : List (Reverse OpenSide))
        → KeepsAccount side scale frozen x.0.slack x.0.rising.items → IsQueue sides scale frozen opens
        → IsQueue (side ∷ sides) scale frozen (x ∷ opens)
    queue_more side x opens account queue = record {
      each = All-cons (IsOpen (side ∷ sides) scale frozen) x opens (side, is_first side sides, account)
          (All-weaker (IsOpen sides scale frozen) (IsOpen (side ∷ sides) scale frozen) (listed_more side) opens
          queue.each);
      covered = All-cons (IsCovered scale frozen (x ∷ opens)) side sides (inr (x, is_first x opens, account))
          (All-weaker (IsCovered scale frozen opens) (IsCovered scale frozen (x ∷ opens))
          (λ other. covered_by opens (x ∷ opens) other (λ o. is_later x o opens)) sides queue.covered);
    }

    pub queue_without : (side : Side) (opens : List (Reverse OpenSide)) → length side.users ≡ 0
        → IsQueue sides scale frozen opens → IsQueue (side ∷ sides) scale frozen opens
    queue_without side opens none queue = record {
      each = All-weaker (IsOpen sides scale frozen) (IsOpen (side ∷ sides) scale frozen) (listed_more side) opens
          queue.each;
      covered = All-cons (IsCovered scale frozen opens) side sides
          (inl (λ k d inside. absurd (omega (arith, none, inside)))) queue.covered;
    }

-- ---- what the code sees

module _ (flows : ℕ) (frozen : ℕ → Option ℕ) where
  pub sound_popped : (xs rest : List (Reverse OpenSide)) (x : Reverse OpenSide) → IsPermutation xs (x ∷ rest)
      → IsHeap queue_cmp rest → IsShareQueue flows frozen xs → IsShareQueue flows frozen rest
  sound_popped xs rest x perm order sound = record {
    users =
        All-tail (λ o. All (λ flow. flow < flows) o.0.rising.items) x rest
        (All-permutation (λ o. All (λ flow. flow < flows) o.0.rising.items) xs (x ∷ rest) perm sound.users);
    no_more =
        All-tail (λ o. HaveNoMore frozen o.0.slack o.0.rising.items) x rest
        (All-permutation (λ o. HaveNoMore frozen o.0.slack o.0.rising.items) xs (x ∷ rest) perm sound.no_more);
    order = order;
  }

  pub sound_pushed : (rest xs : List (Reverse OpenSide)) (x : Reverse OpenSide) → IsPermutation (x ∷ rest) xs
      → IsHeap queue_cmp xs → All (λ flow. flow < flows) x.0.rising.items
      → HaveNoMore frozen x.0.slack x.0.rising.items → IsShareQueue flows frozen rest → IsShareQueue flows frozen xs
  sound_pushed rest xs x perm order users no_more sound = record {
    users =
        All-permutation (λ o. All (λ flow. flow < flows) o.0.rising.items) (x ∷ rest) xs perm
        (All-cons (λ o. All (λ flow. flow < flows) o.0.rising.items) x rest users sound.users);
    no_more = All-permutation (λ o. HaveNoMore frozen o.0.slack o.0.rising.items) (x ∷ rest) xs perm
        (All-cons (λ o. HaveNoMore frozen o.0.slack o.0.rising.items) x rest no_more sound.no_more);
    order = order;
  }

-- what is within the share of the first and of the rest
pub above_counted : (parts : ℕ) (xs rest : List (Reverse OpenSide)) (x new : Reverse OpenSide)
    → IsPermutation xs (x ∷ rest)
    → (IsWithinSlack parts x.0.slack x.0.rising.items → IsWithinSlack parts new.0.slack new.0.rising.items)
    → AreAbove parts xs → AreAbove parts (new ∷ rest)
above_counted parts xs rest x new perm no_lower above =
    let P : Reverse OpenSide → Type 0 = λ o. IsWithinSlack parts o.0.slack o.0.rising.items in
    let all : All P (x ∷ rest) = All-permutation P xs (x ∷ rest) perm above in
    All-cons P new rest (no_lower (All-head P x rest all)) (All-tail P x rest all)

-- ---- the first open sides

pub opened_none : AreOpened [] []
opened_none = search (rules, All-nil)

-- in another order
pub opened_permuted : (sides : List declared.Side) (opens later : List (Reverse OpenSide)) → IsPermutation opens later
    → AreOpened sides opens → AreOpened sides later
opened_permuted sides opens later perm was = record {
  queue = λ frozen. queue_permuted 1 frozen (map side_of sides) opens later perm (was.queue frozen);
  users = λ flows all.
      All-permutation (λ o. All (λ flow. flow < flows) o.0.rising.items) opens later perm (was.users flows all);
}

-- one more at the end
pub put_last : {X : Type 0} (x : X) (xs : List X) → IsPermutation (x ∷ xs) (xs ++ x ∷ [])
put_last x xs =
    IsPermutation-sym (xs ++ x ∷ []) (x ∷ xs)
    (IsPermutation-push_more xs xs (x ∷ xs) x (IsPermutation-refl xs) (IsPermutation-refl (x ∷ xs)))

module _ (sides : List declared.Side) (side : declared.Side) (opens : List (Reverse OpenSide))
    (was : AreOpened sides opens) where
  -- one that counts nobody
  pub opened_more : {x : Reverse OpenSide} (later : List (Reverse OpenSide)) → IsPermutation (x ∷ opens) later
      → x.0.slack ≡ side.cap → side.users.items ≡ x.0.rising.items → AreOpened (side ∷ sides) later
  opened_more {x} later perm slack users = record {
    queue = λ frozen. queue_permuted 1 frozen (map side_of (side ∷ sides)) (x ∷ opens) later perm
        (queue_more 1 frozen (map side_of sides) (side_of side) x opens
        (account_start (side_of side) 1 frozen x.0.slack x.0.rising.items (omega (arith, slack)) users)
        (was.queue frozen));
    users = λ flows all.
        let P : Reverse OpenSide → Type 0 = λ o. All (λ flow. flow < flows) o.0.rising.items in
        let Q : declared.Side → Type 0 = λ s. All (λ flow. flow < flows) s.users.items in
        All-permutation P (x ∷ opens) later perm
        (All-cons P x opens (subst (All (λ flow. flow < flows)) users (All-head Q side sides all))
        (was.users flows (All-tail Q side sides all)));
  }

  -- a side without users has no open one
  pub opened_without : length side.users.items ≡ 0 → AreOpened (side ∷ sides) opens
  opened_without none = record {
    queue = λ frozen. queue_without 1 frozen (map side_of sides) (side_of side) opens none (was.queue frozen);
    users = λ flows all. was.users flows (All-tail (λ (s : declared.Side). All (λ flow. flow < flows) s.users.items)
        side sides all);
  }
