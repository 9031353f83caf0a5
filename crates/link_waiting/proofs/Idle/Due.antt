-- The first messages of pairs of which a moment was told that has come, the pairs by their numbers up to one.
use Rattle.link_waiting.proofs.Common.{◌≡◌, ℕ, zero, suc, ◌+◌, ◌<◌, ◌≤◌, Bool, true, false, cond, List, [], ◌∷◌, ◌++◌}
use Rattle.link_waiting.proofs.Common.{length, refl, Option, Some, None, sym, ap, ap₂, ◌∙◌, arith, IfSome}
use Rattle.link_waiting.proofs.Common.{find, list_any, unwrap_or, option_and_then, le-leb, leb-true, eqb-true}
use Rattle.link_waiting.proofs.Common.{append-nil, sum_by-cons, sum_by-append, by_bool, Each, each_find, find_passes}
use Rattle.link_waiting.proofs.Common.{IsDue, Waiter, has_pair, has_number, AreTold, has_come, due_below, ◌==◌, IfNone}
use Rattle.link_waiting.proofs.Common.{count_by, moment_at}
use Rattle.std.proofs.Common.{inl, inr, add-one}
use Rattle.std.proofs.lemmas.Bool.{cases_lt}
use Rattle.std.proofs.lemmas.Bool.Decides.{nat_tests}
use Rattle.std.proofs.lemmas.List.{get_or_past}
use Rattle.least_moment.specs.Moments.{HasCome, NoneDue, IsNextDue}
use Rattle.link_waiting.specs.Idle.Waits.{those}

pub comes : (now : ℕ) (moment : Option ℕ) → HasCome now moment → has_come now moment ≡ true
comes now None come = absurd come
comes now (Some moment) come = le-leb moment now come

pub has_come_if : (now : ℕ) (moment : Option ℕ) → has_come now moment ≡ true → HasCome now moment
has_come_if now None e = cc
has_come_if now (Some moment) e = leb-true moment now e

module _ {P : Type 0} (now : ℕ) (sinces : List (Option ℕ)) (ws : List (Waiter P)) where
  abbrev pub is_due : ℕ → Bool
  is_due pair = has_come now (moment_at sinces pair)

  abbrev pub due : ℕ → List (Waiter P)
  due room = due_below now sinces room ws

  abbrev first_due : ℕ → Bool → List (Waiter P)
  first_due pair b = cond b (those (find (has_pair pair) ws)) []

  -- ---- up to one

  -- between two none is due
  none_between : (from to : ℕ) → from ≤ to → ((at : ℕ) → from ≤ at → at < to → IsDue sinces now at → ⊥) → due to ≡ due from
  none_between from zero le none = let same : from ≡ zero = omega (arith, le) in ap due (sym same)
  none_between from (suc to) le none = elim (cases_lt to from) [
    | inl high ↦ let same : suc to ≡ from = omega (arith, le, high) in ap due same
    | inr low ↦
        let not_due : is_due to ≡ false = by_bool (is_due to)
        (λ is. absurd (none to low (omega arith) (has_come_if now (moment_at sinces to) is))) (λ not. not) in
        ap (λ b. due to ++ first_due to b) not_due ∙ append-nil (due to)
        ∙ none_between from to low (λ at on high. none at on (omega (arith, high)))
  ]

  -- the next one from a place on comes next
  pub up_to_next : (from : ℕ) (next : Option ℕ) → from ≤ length sinces → IfSome next (λ at. at < length sinces)
      → IfSome next (IsNextDue sinces now from) → IfNone next (NoneDue sinces now from)
      → due (unwrap_or next (length sinces)) ≡ due from
  up_to_next from None low within some none = none_between from (length sinces) low (λ at on high. none at on)
  up_to_next from (Some at) low within some none = none_between from at some.on (λ other on high. some.first other on high)

  pub one_and_next : (at : ℕ) (w : Waiter P) (next : Option ℕ) → at < length sinces → find (has_pair at) ws ≡ Some w
      → IsDue sinces now at → IfSome next (λ at. at < length sinces)
      → IfSome next (IsNextDue sinces now (at + 1)) → IfNone next (NoneDue sinces now (at + 1))
      → due (unwrap_or next (length sinces)) ≡ due at ++ w ∷ []
  one_and_next at w next low found is within some none =
      up_to_next (at + 1) next (omega (arith, low)) within some none ∙ ap due (add-one at)
      ∙ ap₂ (λ b o. due at ++ cond b (those o) []) (comes now (moment_at sinces at) is) found

  pub due_of_next : (from : ℕ) (next : Option ℕ) → IfSome next (IsNextDue sinces now from) → IfSome next (IsDue sinces now)
  due_of_next from None some = tt
  due_of_next from (Some at) some = some.due

  -- ---- how many pass a test

  module _ (told : AreTold sinces ws) where
    -- who is due
    pub due_first : (pair : ℕ) → is_due pair ≡ true → (w : Waiter P) × (find (has_pair pair) ws ≡ Some w)
    due_first pair is = by (find (has_pair pair) ws) refl
      where
        by : (found : Option (Waiter P)) → find (has_pair pair) ws ≡ found
            → (w : Waiter P) × (find (has_pair pair) ws ≡ Some w)
        by None e = let no : true ≡ false = sym is ∙ ap (has_come now) (told.only pair e) in cc
        by (Some w) e = (w, e)

    module _ (test : Waiter P → Bool) where
      count_first : (pair : ℕ) (passes : Bool) → ((w : Waiter P) → find (has_pair pair) ws ≡ Some w → test w ≡ passes)
          → count_by test (first_due pair (is_due pair)) ≡ cond passes (cond (is_due pair) 1 0) 0
      count_first pair passes same =
          by _ passes _ (λ is e. let no : true ≡ false = sym is ∙ ap (has_come now) (told.only pair e) in cc) same
        where
          by : (b passes : Bool) (found : Option (Waiter P)) → (b ≡ true → found ≡ None → ⊥)
              → ((w : Waiter P) → found ≡ Some w → test w ≡ passes)
              → count_by test (cond b (those found) []) ≡ cond passes (cond b 1 0) 0
          by false passes found some same = grind (arith, nat_tests)
          by true passes None some same = absurd (some refl refl)
          by true passes (Some w) some same =
              sum_by-cons (λ w. cond (test w) 1 0) w [] ∙ ap (λ b. cond b 1 0 + 0) (same w refl) ∙ omega arith

      count_more : (room : ℕ)
          → count_by test (due (suc room)) ≡ count_by test (due room) + count_by test (first_due room (is_due room))
      count_more room = sum_by-append (λ w. cond (test w) 1 0) (due room) (first_due room (is_due room))

      count_none : Each (λ w. test w ≡ has_number None w) ws → (room : ℕ) → count_by test (due room) ≡ 0
      count_none alike zero = refl
      count_none alike (suc room) =
          let here = count_first room false (λ w e. each_find (λ w. test w ≡ false) (has_pair room) ws w alike e) in
          omega (arith, count_more room, here, count_none alike room)

      count_some : (pair : ℕ) → Each (λ w. test w ≡ has_pair pair w) ws → (room : ℕ)
          → (pair < room → count_by test (due room) ≡ cond (is_due pair) 1 0) × (room ≤ pair → count_by test (due room) ≡ 0)
      count_some pair alike zero = (λ low. absurd (omega (arith, low)), λ high. refl)
      count_some pair alike (suc room) =
          let rest = count_some pair alike room in
          let all = count_more room in
          let first = count_first room (room == pair)
          (λ w e. each_find (λ w. test w ≡ has_pair pair w) (has_pair room) ws w alike e
          ∙ ap (λ n. n == pair) (eqb-true w.pair room (find_passes (has_pair room) w ws e))) in (
            λ low. grind (arith, nat_tests, all, first, rest.0, rest.1),
            λ high. grind (arith, nat_tests, all, first, rest.1),
          )

      -- one of a pair is due where it is told of the pair
      pub count_due : (number : Option ℕ) → Each (λ w. test w ≡ has_number number w) ws
          → count_by test (due (length sinces)) ≡ cond (has_come now (option_and_then (moment_at sinces) number)) 1 0
      count_due None alike = count_none alike (length sinces)
      count_due (Some pair) alike = elim (cases_lt pair (length sinces)) [
        | inl low ↦ (count_some pair alike (length sinces)).0 low
        | inr high ↦ (count_some pair alike (length sinces)).1 high
            ∙ sym (ap (λ moment. cond (has_come now moment) 1 0) (get_or_past sinces pair None high))
      ]

-- whether some pass is whether their number is not 0
pub any_many : {X : Type 0} (test : X → Bool) (xs : List X) (b : Bool) → count_by test xs ≡ cond b 1 0 → list_any test xs ≡ b
any_many test [] true is = absurd (omega (arith, is))
any_many test [] false is = refl
any_many test (x ∷ xs) b is = grind (arith, is, sum_by-cons (λ x. cond (test x) 1 0) x xs, (any_many test xs b))
