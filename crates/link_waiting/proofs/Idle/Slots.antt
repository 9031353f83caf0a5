-- The slots of messages that wait: what is in them, and the first slot of a pair.
use Rattle.link_waiting.proofs.Common.{◌≡◌, ℕ, zero, suc, ◌+◌, ◌<◌, Bool, true, cond, List, [], ◌∷◌, ◌++◌}
use Rattle.link_waiting.proofs.Common.{length, map, refl, Option, Some, None, is_some, zero-add, sym, ap, ◌∙◌, arith}
use Rattle.link_waiting.proofs.Common.{slice_set, subst, IfSome, is_none, slice_index_or, filter, find}
use Rattle.link_waiting.proofs.Common.{option_or, eq-eqb, eqb-true, find-append, sum_by-cons}
use Rattle.link_waiting.proofs.Common.{each_of_all, without_first, Slot, waiter_of, live, has_pair}
use Rattle.link_waiting.proofs.Common.{AreTold, IsFirstSlot, IfNone, sum_by-append, each_find, pair_in, same_Some}
use Rattle.std.specs.Prelude.{option_map}
use Rattle.std.specs.List.{count_by}
use Rattle.std.proofs.lemmas.List.{set_at, get_or_at}
use Rattle.std.proofs.lemmas.List.Elements.{filter_map-append}
use Rattle.std.proofs.Math.ListN.{get_or-map}
use Rattle.std.proofs.lemmas.Bool.Decides.{nat_tests}
use Rattle.chains.specs.Places.{IsFirst}

-- ---- lists

module _ {X : Type 0} (test : X → Bool) where
  find_seam : (xs : List X) (x : X) (ys : List X) → find test xs ≡ None → test x ≡ true
      → find test (xs ++ x ∷ ys) ≡ Some x
  find_seam xs x ys none is =
      find-append test xs (x ∷ ys) ∙ ap (λ o. option_or o (find test (x ∷ ys))) none
      ∙ ap (λ b. cond b (Some x) (find test ys)) is

  without_seam : (xs : List X) (x : X) (ys : List X) → find test xs ≡ None → test x ≡ true
      → without_first test (xs ++ x ∷ ys) ≡ xs ++ ys
  without_seam [] x ys none is = ap (λ b. cond b ys (x ∷ without_first test ys)) is
  without_seam (z ∷ xs) x ys none is = grind (arith, (without_seam xs x ys))

  pub without_missing : (xs : List X) → find test xs ≡ None → without_first test xs ≡ xs
  without_missing [] none = refl
  without_missing (z ∷ xs) none = grind (arith, (without_missing xs))

module _ {P : Type 0} where
  abbrev held : List (Option (Slot P)) → ℕ → Option (Slot P)
  held slots at = slice_index_or slots at None

  pub live_append : (slots more : List (Option (Slot P))) → live (slots ++ more) ≡ live slots ++ live more
  live_append = filter_map-append (option_map waiter_of)

  -- one for an empty slot
  abbrev gap : Option (Slot P) → ℕ
  gap one = cond (is_none one) 1 0

  -- ---- the first slot of a pair

  module _ (pair : ℕ) where
    none_stands : (slots : List (Option (Slot P))) → ((at : ℕ) → pair_in (held slots at) ≡ Some pair → ⊥)
        → find (has_pair pair) (live slots) ≡ None
    none_stands [] never = refl
    none_stands (None ∷ slots) never = none_stands slots (λ at. never (suc at))
    none_stands (Some slot ∷ slots) never =
        grind (arith, nat_tests, never zero, (none_stands slots (λ at. never (suc at))))

    first_stands : (slots : List (Option (Slot P))) (at : ℕ)
        → ((other : ℕ) → other < at → pair_in (held slots other) ≡ Some pair → ⊥)
        → pair_in (held slots at) ≡ Some pair → IsFirstSlot pair slots at
    first_stands [] at never there = cc
    first_stands (None ∷ slots) zero never there = cc
    first_stands (Some slot ∷ slots) zero never there = record {
      before = [];
      slot = slot;
      after = slots;
      split = refl;
      is_at = refl;
      others = refl;
      same = eq-eqb slot.pair pair (same_Some slot.pair pair there);
    }
    first_stands (one ∷ slots) (suc at) never there =
        let rest = first_stands slots at (λ other low. never (suc other) (omega (arith, low))) there in
        record {
          before = one ∷ rest.before;
          slot = rest.slot;
          after = rest.after;
          split = ap (λ l. one ∷ l) rest.split;
          is_at = ap suc rest.is_at;
          others = before_it one rest.before (never zero (omega arith)) rest.others;
          same = rest.same;
        }
      where
        before_it : (one : Option (Slot P)) (before : List (Option (Slot P))) → (pair_in one ≡ Some pair → ⊥)
            → find (has_pair pair) (live before) ≡ None → find (has_pair pair) (live (one ∷ before)) ≡ None
        before_it None before never others = others
        before_it (Some slot) before never others = grind (arith, nat_tests, never, others)

    module _ (slots : List (Option (Slot P))) (at : ℕ) (first : IsFirstSlot pair slots at) where
      pub held_there : slice_index_or slots at None ≡ Some first.slot
      held_there = ap (λ l. slice_index_or l at None) first.split
          ∙ get_or_at first.before (Some first.slot) first.after None at (sym first.is_at)

      live_split : live slots ≡ live first.before ++ waiter_of first.slot ∷ live first.after
      live_split = ap live first.split ∙ live_append first.before (Some first.slot ∷ first.after)

      pub found : find (has_pair pair) (live slots) ≡ Some (waiter_of first.slot)
      found = ap (find (has_pair pair)) live_split
          ∙ find_seam (has_pair pair) (live first.before) (waiter_of first.slot) (live first.after) first.others first.same

      set_there : (one : Option (Slot P)) → slice_set slots at one ≡ first.before ++ one ∷ first.after
      set_there one = ap (λ l. slice_set l at one) first.split
          ∙ set_at first.before (Some first.slot) first.after one at (sym first.is_at)

      -- there is a place for the pair
      pub room_of : (sinces : List (Option ℕ)) → AreTold sinces (live slots) → pair < length sinces
      room_of sinces told =
          subst (λ n. n < length sinces) (eqb-true first.slot.pair pair first.same)
          (each_find (λ w. w.pair < length sinces) _ _ _ (each_of_all _ _ told.room) found)

      -- it is empty
      pub live_taken : live (slice_set slots at None) ≡ without_first (has_pair pair) (live slots)
      live_taken = ap live (set_there None) ∙ live_append first.before (None ∷ first.after)
          ∙ sym (ap (without_first (has_pair pair)) live_split
          ∙ without_seam (has_pair pair) (live first.before) (waiter_of first.slot) (live first.after) first.others first.same)

      pub gaps_taken : count_by is_none (slice_set slots at None) ≡ count_by is_none slots + 1
      gaps_taken = omega (
        arith,
        ap (count_by is_none) (set_there None),
        ap (count_by is_none) first.split,
        sum_by-append gap first.before (None ∷ first.after),
        sum_by-append gap first.before (Some first.slot ∷ first.after),
        sum_by-cons gap None first.after,
        sum_by-cons gap (Some first.slot) first.after,
      )

  -- ---- gaps

  pub gaps_and_live : (slots : List (Option (Slot P))) → count_by is_none slots + length (live slots) ≡ length slots
  gaps_and_live [] = refl
  gaps_and_live (None ∷ slots) =
      let rest = gaps_and_live slots in
      let more : count_by is_none (None ∷ slots) ≡ 1 + count_by is_none slots = sum_by-cons gap None slots in
      let same : length (live (None ∷ slots)) ≡ length (live slots) = refl in
      omega (arith, rest, more, same)
  gaps_and_live (Some slot ∷ slots) =
      let rest = gaps_and_live slots in
      let same : count_by is_none (Some slot ∷ slots) ≡ 0 + count_by is_none slots = sum_by-cons gap (Some slot) slots in
      let more : length (live (Some slot ∷ slots)) ≡ suc (length (live slots)) = refl in
      omega (arith, rest, more, same)

  pub gaps_added : (slots : List (Option (Slot P))) (slot : Slot P)
      → count_by is_none (slots ++ Some slot ∷ []) ≡ count_by is_none slots
  gaps_added slots slot =
      let more : count_by is_none (slots ++ Some slot ∷ []) ≡ count_by is_none slots + 0 = sum_by-append gap slots _ in
      omega (arith, more)

  -- where no slot is empty
  pub live_whole : (slots : List (Option (Slot P))) → live (filter is_some slots) ≡ live slots
  live_whole [] = refl
  live_whole (None ∷ slots) = live_whole slots
  live_whole (Some slot ∷ slots) = ap (λ l. waiter_of slot ∷ l) (live_whole slots)

  pub gaps_whole : (slots : List (Option (Slot P))) → 0 ≡ count_by is_none (filter is_some slots)
  gaps_whole [] = refl
  gaps_whole (None ∷ slots) = gaps_whole slots
  gaps_whole (Some slot ∷ slots) =
      gaps_whole slots ∙ sym (sum_by-cons gap (Some slot) (filter is_some slots) ∙ zero-add (count_by is_none (filter is_some slots)))

  pub pairs_whole : (slots : List (Option (Slot P))) → filter is_some (map pair_in slots) ≡ map pair_in (filter is_some slots)
  pairs_whole [] = refl
  pairs_whole (None ∷ slots) = pairs_whole slots
  pairs_whole (Some slot ∷ slots) = ap (λ l. Some slot.pair ∷ l) (pairs_whole slots)

  -- ---- the first row of a chain

  module _ (pair : ℕ) (slots : List (Option (Slot P))) (stands : List (Option ℕ)) (e : stands ≡ map pair_in slots) where
    pub stand_at : (at : ℕ) → slice_index_or stands at None ≡ pair_in (held slots at)
    stand_at at = ap (λ l. slice_index_or l at None) e ∙ get_or-map pair_in slots at None

    pub first_some : (result : Option ℕ) → IsFirst (λ at. slice_index_or stands at None ≡ Some pair) 0 result
        → IfSome result (IsFirstSlot pair slots)
    first_some None first = tt
    first_some (Some at) first =
        first_stands pair slots at
        (λ other low is. first.first other (omega arith) low (stand_at other ∙ is))
        (sym (stand_at at) ∙ first.there)

    pub first_none : (result : Option ℕ) → IsFirst (λ at. slice_index_or stands at None ≡ Some pair) 0 result
        → IfNone result (find (has_pair pair) (live slots) ≡ None)
    first_none None first = none_stands pair slots (λ at is. first at (omega arith) (stand_at at ∙ is))
    first_none (Some at) first = tt

    pub none_owned : ((at : ℕ) → slice_index_or stands at None ≡ Some pair → ⊥) → find (has_pair pair) (live slots) ≡ None
    none_owned never = none_stands pair slots (λ at is. never at (stand_at at ∙ is))
