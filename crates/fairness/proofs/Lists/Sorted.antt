-- Lists in the order of keys: what a search finds, and what the entry of a key says after a change.
use Rattle.fairness.proofs.Common.{◌≡◌, ℕ, zero, suc, ◌+◌, ◌<◌, ◌≤◌, Bool, true, false, ◌&&◌, List, [], ◌∷◌, ◌++◌}
use Rattle.fairness.proofs.Common.{length, map, get_or, take, drop, set, Result, Ok, Err, IfErr, refl, sym, ◌∙◌, ap}
use Rattle.fairness.proofs.Common.{subst, arith, list_all, insert, Ordering, Less, Equal, Greater, is_lt, is_eq}
use Rattle.fairness.proofs.Common.{IsTotalOrder, map-append, and_from, IsGap, rules, common_steps}
use Rattle.std.proofs.Common.{if◌then◌else◌, IfOk}
use Rattle.std.specs.List.{HoldsAt, AllWithin}
use Rattle.std.specs.List.Sorted.{IsSearchInRange, IsBinarySearchResult, IsNonDecreasingBy, IsPartitionPoint}
use Rattle.std.specs.Ordering.{is_gt, ordering_index}
use Rattle.std.proofs.lemmas.Cmp.{tied_itself, tied_back, alike_right}
use Rattle.std.proofs.lemmas.List.{take-append-drop, get_or-drop, length-drop}
use Rattle.fairness.proofs.Lists.Booleans.{by_bool, first_of_both, second_of_both}
use Rattle.fairness.specs.Lists.Sorted.{are_ascending, value_at, IsPlace}

-- ---- tests

pub is_lt_less : (o : Ordering) → is_lt o ≡ true → o ≡ Less
is_lt_less Less h = refl
is_lt_less Equal h = cc
is_lt_less Greater h = cc

pub is_eq_equal : (o : Ordering) → is_eq o ≡ true → o ≡ Equal
is_eq_equal Less h = cc
is_eq_equal Equal h = refl
is_eq_equal Greater h = cc

pub is_gt_greater : (o : Ordering) → is_gt o ≡ true → o ≡ Greater
is_gt_greater Less h = cc
is_gt_greater Equal h = cc
is_gt_greater Greater h = refl

-- what holds of both holds of either
pub either : {X : Type 0} (Q : X → Type 0) (b : Bool) {x y : X} → Q x → Q y → Q (if b then x else y)
either Q true q r = q
either Q false q r = r

-- ---- lists

pub list_all-append : {X : Type 0} (p : X → Bool) (xs ys : List X) → list_all p xs ≡ true → list_all p ys ≡ true
    → list_all p (xs ++ ys) ≡ true
list_all-append p [] ys h k = k
list_all-append p (x ∷ xs) ys h k =
    and_from (p x) _ (first_of_both (p x) _ h) (list_all-append p xs ys (second_of_both (p x) _ h) k)

pub list_all-left : {X : Type 0} (p : X → Bool) (xs ys : List X) → list_all p (xs ++ ys) ≡ true → list_all p xs ≡ true
list_all-left p [] ys h = refl
list_all-left p (x ∷ xs) ys h =
    and_from (p x) _ (first_of_both (p x) _ h) (list_all-left p xs ys (second_of_both (p x) _ h))

pub list_all-right : {X : Type 0} (p : X → Bool) (xs ys : List X) → list_all p (xs ++ ys) ≡ true → list_all p ys ≡ true
list_all-right p [] ys h = h
list_all-right p (x ∷ xs) ys h = list_all-right p xs ys (second_of_both (p x) _ h)

pub list_all-mono : {X : Type 0} (p q : X → Bool) → ((x : X) → p x ≡ true → q x ≡ true) → (xs : List X)
    → list_all p xs ≡ true → list_all q xs ≡ true
list_all-mono p q f [] h = refl
list_all-mono p q f (x ∷ xs) h =
    and_from (q x) _ (f x (first_of_both (p x) _ h)) (list_all-mono p q f xs (second_of_both (p x) _ h))

pub list_all-map : {X Y : Type 0} (p : Y → Bool) (f : X → Y) (xs : List X)
    → list_all p (map f xs) ≡ list_all (λ x. p (f x)) xs
list_all-map p f [] = refl
list_all-map p f (x ∷ xs) = ap (λ b. p (f x) && b) (list_all-map p f xs)

pub take-seam : {X : Type 0} (xs ys : List X) → take (length xs) (xs ++ ys) ≡ xs
take-seam [] ys = refl
take-seam (x ∷ xs) ys = ap (λ l. x ∷ l) (take-seam xs ys)

pub drop-seam : {X : Type 0} (xs ys : List X) → drop (length xs) (xs ++ ys) ≡ ys
drop-seam [] ys = refl
drop-seam (x ∷ xs) ys = drop-seam xs ys

pub get_or-seam : {X : Type 0} (xs ys : List X) (y d : X) → get_or (xs ++ y ∷ ys) (length xs) d ≡ y
get_or-seam [] ys y d = refl
get_or-seam (x ∷ xs) ys y d = get_or-seam xs ys y d

pub set-seam : {X : Type 0} (xs ys : List X) (y z : X) → set (xs ++ y ∷ ys) (length xs) z ≡ xs ++ z ∷ ys
set-seam [] ys y z = refl
set-seam (x ∷ xs) ys y z = ap (λ l. x ∷ l) (set-seam xs ys y z)

pub insert-seam : {X : Type 0} (xs ys : List X) (z : X) → insert (xs ++ ys) (length xs) z ≡ xs ++ z ∷ ys
insert-seam xs ys z = rw (take-seam xs ys, drop-seam xs ys) refl

-- a list, cut before an element and after it
pub record IsCut {X : Type 0} (xs : List X) (at : ℕ) : Type 0 where
  pub before : List X
  pub here : X
  pub after : List X
  pub split : xs ≡ before ++ here ∷ after
  pub is_at : at ≡ length before

pub cut : {X : Type 0} (xs : List X) (at : ℕ) → at < length xs → IsCut xs at
cut [] at h = absurd (omega arith)
cut (x ∷ xs) zero h = record { before = []; here = x; after = xs; split = refl; is_at = refl }
cut (x ∷ xs) (suc at) h = let c : IsCut xs at = cut xs at (omega arith) in
    record {
      before = x ∷ c.before;
      here = c.here;
      after = c.after;
      split = ap (λ l. x ∷ l) c.split;
      is_at = ap suc c.is_at;
    }

-- what holds within a range of places holds of each element there
pub all_from_within : {X : Type 0} (p : X → Bool) (xs : List X) → AllWithin (λ x. p x ≡ true) xs 0 (length xs)
    → list_all p xs ≡ true
all_from_within p [] h = refl
all_from_within p (x ∷ xs) h =
    and_from (p x) _ (h 0 x (omega arith) (omega arith))
    (all_from_within p xs (λ k d low high. h (suc k) d (omega arith) (omega arith)))

pub within_from_all : {X : Type 0} (p : X → Bool) (xs : List X) → list_all p xs ≡ true → (k : ℕ) (d : X) → k < length xs
    → p (get_or xs k d) ≡ true
within_from_all p [] h k d lt = absurd (omega arith)
within_from_all p (x ∷ xs) h zero d lt = first_of_both (p x) _ h
within_from_all p (x ∷ xs) h (suc k) d lt = within_from_all p xs (second_of_both (p x) _ h) k d (omega arith)

module _ {K : Type 0} (cmp : K → K → Ordering) (total : IsTotalOrder cmp) where
  -- a lesser key compares no higher with any key
  index_le : (k l m : K) → cmp k l ≡ Less → ordering_index (cmp k m) ≤ ordering_index (cmp l m)
  index_le k l m less = search (rules, alike_right)

  -- the key of one entry is below the keys of those after it
  pub ascending_split : (ks ls : List K) (k : K) → are_ascending cmp (ks ++ k ∷ ls) ≡ true
      → record { lower : list_all (λ l. is_lt (cmp l k)) ks ≡ true; higher : list_all (λ l. is_lt (cmp k l)) ls ≡ true }
  ascending_split [] ls k h = record { lower = refl; higher = first_of_both (list_all (λ l. is_lt (cmp k l)) ls) _ h }
  ascending_split (j ∷ ks) ls k h =
      let rest = ascending_split ks ls k (second_of_both (list_all (λ l. is_lt (cmp j l)) (ks ++ k ∷ ls)) _ h) in
      let first : list_all (λ l. is_lt (cmp j l)) (k ∷ ls) ≡ true = search (rules, list_all-right, first_of_both) in
      record {
        lower = and_from (is_lt (cmp j k)) _ (first_of_both (is_lt (cmp j k)) _ first) rest.lower;
        higher = rest.higher;
      }

  -- a key that is equal to another compares as it does
  is_lt_alike : (k l m : K) → cmp l m ≡ Equal → is_lt (cmp k l) ≡ true → is_lt (cmp k m) ≡ true
  is_lt_alike k l m same h = rw (sym (alike_right total l m k same)) h

  is_gt_from_lt : (k l m : K) → cmp k m ≡ Equal → is_lt (cmp k l) ≡ true → is_gt (cmp l m) ≡ true
  is_gt_from_lt k l m same h = search (rules, is_lt_less)

  is_lt_from_gt : (k l : K) → is_gt (cmp l k) ≡ true → is_lt (cmp k l) ≡ true
  is_lt_from_gt k l h = rw (total.antisymm k l, is_gt_greater (cmp l k) h) refl

  -- an ascending list with a key more, in its gap
  pub ascending_insert : (ks ls : List K) (k : K) → are_ascending cmp (ks ++ ls) ≡ true
      → list_all (λ l. is_lt (cmp l k)) ks ≡ true → list_all (λ l. is_gt (cmp l k)) ls ≡ true
      → are_ascending cmp (ks ++ k ∷ ls) ≡ true
  ascending_insert [] ls k h below above = and_from _ _ (list_all-mono _ _ (λ l g. is_lt_from_gt k l g) ls above) h
  ascending_insert (j ∷ ks) ls k h below above =
      let first = first_of_both (list_all _ (ks ++ ls)) _ h in
      and_from _ _ (list_all-append _ ks (k ∷ ls) (list_all-left _ ks ls first)
      (and_from _ _ (first_of_both _ _ below) (list_all-right _ ks ls first)))
      (ascending_insert ks ls k (second_of_both _ _ h) (second_of_both _ _ below) above)

  module _ {E : Type 0} (key : E → K) where
    -- the comparisons with a key rise along an ascending list
    comparisons_rise : (es : List E) (k : K) → are_ascending cmp (map key es) ≡ true
        → IsNonDecreasingBy (λ e. ordering_index (cmp (key e) k)) es
    comparisons_rise [] k h i j d le lt = absurd (omega arith)
    comparisons_rise (e ∷ es) k h zero zero d le lt = omega arith
    comparisons_rise (e ∷ es) k h zero (suc j) d le lt =
        let below : list_all (λ f. is_lt (cmp (key e) (key f))) es ≡ true =
        search (rules, list_all-map, first_of_both) in
        index_le (key e) _ k (is_lt_less _ (within_from_all _ es below j d (omega arith)))
    comparisons_rise (e ∷ es) k h (suc i) zero d le lt = absurd (omega arith)
    comparisons_rise (e ∷ es) k h (suc i) (suc j) d le lt =
        comparisons_rise es k (second_of_both _ _ h) i j d (omega arith) (omega arith)

    -- an entry of the key in an ascending list is its place
    pub place : (es before after : List E) (here : E) (k : K) (at : ℕ) → es ≡ before ++ here ∷ after
        → at ≡ length before → are_ascending cmp (map key es) ≡ true → cmp (key here) k ≡ Equal
        → IsPlace cmp key es k at
    place es before after here k at split is_at ascending same =
        search (rules, map-append, ascending_split, list_all-map, list_all-mono, is_lt_alike, is_gt_from_lt)

    -- what a binary search finds
    found_there : (es : List E) (k : K) (at : ℕ) → are_ascending cmp (map key es) ≡ true → at < length es
        → HoldsAt (λ e. cmp (key e) k ≡ Equal) es at → IsPlace cmp key es k at
    found_there es k at ascending lt holds =
        let c : IsCut es at = cut es at lt in
        place es c.before c.after c.here k at c.split c.is_at ascending
        (there es c.before c.after c.here at c.split c.is_at (holds c.here))
      where
        there : (es before after : List E) (here : E) (at : ℕ) → es ≡ before ++ here ∷ after → at ≡ length before
            → cmp (key (get_or es at here)) k ≡ Equal → cmp (key here) k ≡ Equal
        there es before after here at split is_at h =
            subst (λ e. cmp (key e) k ≡ Equal)
            (ap (λ l. get_or l at here) split ∙ ap (λ n. get_or (before ++ here ∷ after) n here) is_at
            ∙ get_or-seam before after here here)
            h

    gap : (es : List E) (k : K) (at : ℕ) → at ≤ length es
        → IsPartitionPoint (λ e. cmp (key e) k ≡ Less) (λ e. cmp (key e) k ≡ Greater) es at → IsGap cmp key es k at
    gap es k at le parted = record {
      before = take at es;
      after = drop at es;
      split = sym (take-append-drop at es);
      is_at = sym (length-front at es le);
      below = all_from_within (λ e. is_lt (cmp (key e) k)) (take at es) (λ i d low high.
          let lt : i < at = omega (arith, length-front at es le) in
          ap is_lt (ap (λ e. cmp (key e) k) (front at es i d lt) ∙ parted.0 i d low lt));
      above =
          all_from_within (λ e. is_gt (cmp (key e) k)) (drop at es) (λ i d low high. ap is_gt
          (ap (λ e. cmp (key e) k) (back at es i d) ∙ parted.1 (at + i) d (omega arith) (room at es i le high)));
    }
      where
        length-front : {X : Type 0} (n : ℕ) (xs : List X) → n ≤ length xs → length (take n xs) ≡ n
        length-front zero xs h = refl
        length-front (suc n) [] h = absurd (omega arith)
        length-front (suc n) (x ∷ xs) h = ap suc (length-front n xs (omega arith))

        front : {X : Type 0} (n : ℕ) (xs : List X) (i : ℕ) (d : X) → i < n → get_or (take n xs) i d ≡ get_or xs i d
        front zero xs i d h = absurd (omega arith)
        front (suc n) [] i d h = refl
        front (suc n) (x ∷ xs) zero d h = refl
        front (suc n) (x ∷ xs) (suc i) d h = front n xs i d (omega arith)

        back : {X : Type 0} (n : ℕ) (xs : List X) (i : ℕ) (d : X) → get_or (drop n xs) i d ≡ get_or xs (n + i) d
        back n xs i d = get_or-drop n xs i d

        room : {X : Type 0} (n : ℕ) (xs : List X) (i : ℕ) → n ≤ length xs → i < length (drop n xs) → n + i < length xs
        room n xs i h k = omega (arith, length-drop n xs)

    pub searched : (es : List E) (k : K) (r : Result ℕ ℕ) → are_ascending cmp (map key es) ≡ true
        → IsSearchInRange r (length es) → IsBinarySearchResult (λ e. cmp (key e) k) es r
        → record { found : IfOk r (IsPlace cmp key es k); absent : IfErr r (IsGap cmp key es k) }
    searched es k (Ok at) ascending lt holds = record { found = found_there es k at ascending lt holds; absent = tt }
    searched es k (Err at) ascending le parted = search (rules, gap, comparisons_rise)

    -- ---- what the entry of a key says

    module _ {V : Type 0} (says : E → V) (none : V) where
      -- lesser entries are passed over
      skips : (es rest : List E) (k q : K) → list_all (λ e. is_lt (cmp (key e) k)) es ≡ true → is_eq (cmp k q) ≡ true
          → value_at cmp key says none (es ++ rest) q ≡ value_at cmp key says none rest q
      skips [] rest k q below same = refl
      skips (e ∷ es) rest k q below same =
          search (
            rules,
            alike_right,
            is_eq_equal,
            is_lt_less,
            first_of_both,
            second_of_both,
            skips es rest k q (second_of_both (is_lt (cmp (key e) k)) _ below) same,
          )

      -- the same beginning changes nothing
      behind : (es rest others : List E) (q : K)
          → value_at cmp key says none rest q ≡ value_at cmp key says none others q
          → value_at cmp key says none (es ++ rest) q ≡ value_at cmp key says none (es ++ others) q
      behind [] rest others q h = h
      behind (e ∷ es) rest others q h = search (rules, behind es rest others q h)

      -- greater entries alone say nothing
      greater : (es : List E) (k : K) → list_all (λ e. is_gt (cmp (key e) k)) es ≡ true
          → value_at cmp key says none es k ≡ none
      greater [] k above = refl
      greater (e ∷ es) k above =
          rw (is_gt_greater _ (first_of_both (is_gt (cmp (key e) k)) _ above)) (greater es k (second_of_both _ _ above))

      pub at_place : (es : List E) (k : K) (at : ℕ) → (p : IsPlace cmp key es k at)
          → value_at cmp key says none es k ≡ says p.entry
      at_place es k at p = search (rules, skips, tied_itself)

      pub at_gap : (es : List E) (k : K) (at : ℕ) → IsGap cmp key es k at → value_at cmp key says none es k ≡ none
      at_gap es k at g = search (rules, skips, tied_itself, greater)

      -- an entry with an equal key answers for the key
      is_eq_alike : (j k q : K) → is_eq (cmp j k) ≡ true → is_eq (cmp j q) ≡ is_eq (cmp k q)
      is_eq_alike j k q same = ap is_eq (total.congr j k q (is_eq_equal _ same))

      -- the entry of a key is another one now
      pub replaced : (es : List E) (k : K) (at : ℕ) (p : IsPlace cmp key es k at) (e : E) → is_eq (cmp (key e) k) ≡ true
          → (q : K) → value_at cmp key says none (p.before ++ e ∷ p.after) q
          ≡ (if is_eq (cmp k q) then says e else value_at cmp key says none es q)
      replaced es k at p e same q = search (rules, by_bool, skips, is_eq_alike, behind)

    -- ---- by place

    pub read_place : (es : List E) (k : K) (at : ℕ) (p : IsPlace cmp key es k at) (d : E) → get_or es at d ≡ p.entry
    read_place es k at p d = search (rules, get_or-seam)

    pub insert_gap : (es : List E) (k : K) (at : ℕ) (g : IsGap cmp key es k at) (e : E)
        → insert es at e ≡ g.before ++ e ∷ g.after
    insert_gap es k at g e = search (rules, insert-seam)

    -- an entry of a key stands between those of lesser and of greater ones
    ascending_between : (before after : List E) (k : K) (e : E) → is_eq (cmp (key e) k) ≡ true
        → are_ascending cmp (map key before ++ map key after) ≡ true
        → list_all (λ f. is_lt (cmp (key f) k)) before ≡ true → list_all (λ f. is_gt (cmp (key f) k)) after ≡ true
        → are_ascending cmp (map key before ++ key e ∷ map key after) ≡ true
    ascending_between before after k e same h below above =
        search (rules, tied_back, is_eq_equal, ascending_insert, list_all-map, list_all-mono, is_lt_alike, alike_right)

    pub ascending_insert_at : (es : List E) (k : K) (at : ℕ) (g : IsGap cmp key es k at) (e : E)
        → is_eq (cmp (key e) k) ≡ true → are_ascending cmp (map key es) ≡ true
        → are_ascending cmp (map key (insert es at e)) ≡ true
    ascending_insert_at es k at g e same h = grind (arith, common_steps, insert_gap, map-append, ascending_between)

    module _ {V : Type 0} (says : E → V) (none : V) where
      pub value_there : (es : List E) (k : K) (at : ℕ) → IsPlace cmp key es k at → (d : E)
          → says (get_or es at d) ≡ value_at cmp key says none es k
      value_there es k at p d = ap says (read_place es k at p d) ∙ sym (at_place says none es k at p)

      -- equal keys have one value
      pub value_respects : (es : List E) (k q : K) → cmp k q ≡ Equal
          → value_at cmp key says none es k ≡ value_at cmp key says none es q
      value_respects [] k q same = refl
      value_respects (e ∷ es) k q same = search (rules, alike_right, value_respects es k q same)
