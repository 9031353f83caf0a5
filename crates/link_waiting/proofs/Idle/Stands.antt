-- What is kept beside the slots, where a message comes or leaves, or another moment is told of a pair.
use Rattle.link_waiting.proofs.Common.{◌≡◌, ℕ, ◌+◌, ◌<◌, ◌≤◌, ◌==◌, false, cond, List, [], ◌∷◌, ◌++◌, length}
use Rattle.link_waiting.proofs.Common.{map, Option, Some, None, refl, is_some, sym, ap, ◌∙◌, subst, slice_set, arith}
use Rattle.link_waiting.proofs.Common.{Result, Ok, Err, is_none, filter, find, without_first, Rows, Slot}
use Rattle.link_waiting.proofs.Common.{eq-eqb, find-append, each_of_all, all_of_each, each_without}
use Rattle.link_waiting.proofs.Common.{Waiter, waiter_of, live, has_pair, AreTold, IsToldAnew, IsFirstSlot, OnOk}
use Rattle.link_waiting.proofs.Common.{All-weaker, All-push, Slots, pair_in, Stands, Marked, moment_at}
use Rattle.std.proofs.Common.{All}
use Rattle.std.specs.List.{count_by}
use Rattle.std.proofs.lemmas.Grind.{get_or-set_at}
use Rattle.std.proofs.lemmas.Bool.Decides.{nat_tests}
use Rattle.std.proofs.lemmas.List.{map-set, map-append, get_or-set_other}
use Rattle.link_waiting.proofs.Idle.Slots.{found, live_append, live_taken, live_whole, gaps_added, gaps_taken}
use Rattle.link_waiting.proofs.Idle.Slots.{gaps_whole, pairs_whole, room_of}

-- ---- what is told

-- the moment comes to stand there
pub told_at : (sinces : List (Option ℕ)) (pair : ℕ) (moment : Option ℕ) → pair < length sinces
    → IsToldAnew pair moment sinces (slice_set sinces pair moment)
told_at sinces pair moment low at = grind (arith, nat_tests, get_or-set_at, get_or-set_other)

-- that is told already
pub told_already : (sinces : List (Option ℕ)) (pair : ℕ) (moment : Option ℕ) → moment_at sinces pair ≡ moment
    → IsToldAnew pair moment sinces sinces
told_already sinces pair moment told at = grind (arith, nat_tests)

module _ {P : Type 0} where
  -- the first one of another pair stays
  find_past : (pair other : ℕ) → (other == pair) ≡ false → (ws : List (Waiter P))
      → find (has_pair other) (without_first (has_pair pair) ws) ≡ find (has_pair other) ws
  find_past pair other not [] = refl
  find_past pair other not (w ∷ ws) = grind (arith, nat_tests, (find_past pair other not ws))

  module _ (old new : List (Option ℕ)) (ws : List (Waiter P)) (told : AreTold old ws) where
    -- one more waits, and the same is told
    told_added : (w : Waiter P) → ((at : ℕ) → moment_at new at ≡ moment_at old at) → length old ≤ length new
        → w.pair < length new → AreTold new (ws ++ w ∷ [])
    told_added w same long low = record {
      room = All-push (λ w. w.pair < length new) ws w
          (All-weaker (λ w. w.pair < length old) (λ w. w.pair < length new) (λ w h. omega (arith, h, long)) ws told.room) low;
      only = λ pair none. grind (arith, same pair, told.only pair, find-append (has_pair pair) ws (w ∷ []));
    }

    -- another moment is told of a pair of which one waits, or none
    told_anew : (pair : ℕ) (moment : Option ℕ) → IsToldAnew pair moment old new → length new ≡ length old
        → (find (has_pair pair) ws ≡ None → moment ≡ None) → AreTold new ws
    told_anew pair moment anew long some = record {
      room = subst (λ n. All (λ (w : Waiter P). w.pair < n) ws) (sym long) told.room;
      only = λ other none. grind (arith, nat_tests, anew other, told.only other, some);
    }

  -- one less waits
  told_taken : (sinces : List (Option ℕ)) (ws : List (Waiter P)) (pair : ℕ) → AreTold sinces ws → moment_at sinces pair ≡ None
      → AreTold sinces (without_first (has_pair pair) ws)
  told_taken sinces ws pair told none = record {
    room = all_of_each (λ w. w.pair < length sinces) _
        (each_without (λ w. w.pair < length sinces) (has_pair pair) ws (each_of_all (λ w. w.pair < length sinces) ws told.room));
    only = λ other gone. grind (arith, nat_tests, told.only other, find_past pair other);
  }

-- ---- one change

module _ {P : Type 0} (slots new : Slots P) (stands : Stands slots) where
  abbrev items : List (Option (Slot P))
  items = slots.slots.items

  same_length : length new.moments ≡ length slots.moments → new.moments ≡ new.sinces.items
      → length new.sinces.items ≡ length slots.sinces.items
  same_length long moments = omega (arith, ap length moments, ap length stands.moments)

  pub stands_added : (slot : Slot P) → new.slots.items ≡ items ++ Some slot ∷ []
      → new.chains.now.stands ≡ slots.chains.now.stands ++ Some slot.pair ∷ []
      → ((at : ℕ) → moment_at new.sinces.items at ≡ moment_at slots.sinces.items at)
      → length slots.sinces.items ≤ length new.sinces.items → slot.pair < length new.sinces.items
      → new.moments ≡ new.sinces.items → new.gaps ≡ slots.gaps → Stands new
  stands_added slot is chains same long low moments gaps = record {
    chains = chains ∙ ap (λ l. l ++ Some slot.pair ∷ []) stands.chains ∙ sym (map-append pair_in items (Some slot ∷ []))
        ∙ ap (map pair_in) (sym is);
    told = subst (AreTold new.sinces.items) (sym (ap live is ∙ live_append items (Some slot ∷ [])))
        (told_added slots.sinces.items new.sinces.items (live items) stands.told (waiter_of slot) same long low);
    moments = moments;
    gaps = gaps ∙ stands.gaps ∙ sym (gaps_added items slot) ∙ ap (count_by is_none) (sym is);
  }

  module _ (pair at : ℕ) (first : IsFirstSlot pair items at) where
    pub pair_low : pair < length slots.sinces.items
    pair_low = room_of pair items at first slots.sinces.items stands.told

    pub stands_taken : new.slots.items ≡ slice_set items at None
        → new.chains.now.stands ≡ slice_set slots.chains.now.stands at None
        → IsToldAnew pair None slots.sinces.items new.sinces.items → length new.moments ≡ length slots.moments
        → new.moments ≡ new.sinces.items → new.gaps ≡ slots.gaps + 1 → Stands new
    stands_taken is chains anew long moments gaps = record {
      chains = chains ∙ ap (λ l. slice_set l at None) stands.chains ∙ sym (map-set pair_in items at None)
          ∙ ap (map pair_in) (sym is);
      told = subst (AreTold new.sinces.items) (sym (ap live is ∙ live_taken pair items at first))
          (told_taken new.sinces.items (live items) pair
          (told_anew slots.sinces.items new.sinces.items (live items) stands.told pair None anew (same_length long moments)
          (λ none. refl))
          (anew pair ∙ ap (λ b. cond b None (moment_at slots.sinces.items pair)) (eq-eqb pair pair refl)));
      moments = moments;
      gaps = gaps ∙ ap (λ n. n + 1) stands.gaps ∙ sym (gaps_taken pair items at first)
          ∙ ap (count_by is_none) (sym is);
    }

    pub stands_told : (moment : Option ℕ) → new.slots ≡ slots.slots → new.chains ≡ slots.chains
        → IsToldAnew pair moment slots.sinces.items new.sinces.items → length new.moments ≡ length slots.moments
        → new.moments ≡ new.sinces.items → new.gaps ≡ slots.gaps → Stands new
    stands_told moment is chains anew long moments gaps =
        let same : live new.slots.items ≡ live items = cc in
        record {
          chains = cc;
          told = subst (AreTold new.sinces.items) (sym same)
              (told_anew slots.sinces.items new.sinces.items (live items) stands.told pair moment anew (same_length long moments)
              (λ none. let no : Some (waiter_of first.slot) ≡ None = sym (found pair items at first) ∙ none in cc));
          moments = moments;
          gaps = cc;
        }

  pub stands_closed : new.slots.items ≡ filter is_some items
      → new.chains.now.stands ≡ filter is_some slots.chains.now.stands
      → new.sinces.items ≡ slots.sinces.items → new.moments ≡ slots.moments → new.gaps ≡ 0 → Stands new
  stands_closed is chains told moments gaps = record {
    chains = chains ∙ ap (filter is_some) stands.chains ∙ pairs_whole items ∙ ap (map pair_in) (sym is);
    told = subst (AreTold new.sinces.items) (sym (ap live is ∙ live_whole items))
        (subst (λ sinces. AreTold sinces (live items)) (sym told) stands.told);
    moments = moments ∙ stands.moments ∙ sym told;
    gaps = gaps ∙ gaps_whole items ∙ ap (count_by is_none) (sym is);
  }

-- where a mark is set, it is as it stands
pub marked_now : {P : Type 0} (new : Slots P) → Stands new → new.slots.before ≡ new.slots.items
    → new.chains.before ≡ new.chains.now → new.sinces.before ≡ new.sinces.items → Marked new
marked_now {P} new stands before chains told = record {
  chains = ap (λ (rows : Rows). rows.stands) chains ∙ stands.chains ∙ ap (map pair_in) (sym before);
  told = subst (λ (slots : List (Option (Slot P))). AreTold new.sinces.before (live slots)) (sym before)
      (subst (λ sinces. AreTold sinces (live new.slots.items)) (sym told) stands.told);
  long = omega (arith, ap length told, ap length stands.moments);
}

pub on_ok : {A E Q : Type 0} (r : Result A E) → Q → OnOk r Q
on_ok (Ok a) q = q
on_ok (Err e) q = tt

pub on_both : {A E Q R S : Type 0} (result : Result A E) → OnOk result Q → OnOk result R → (Q → R → S) → OnOk result S
on_both (Ok a) q r f = f q r
on_both (Err e) q r f = tt
