-- What is known by number, as a list of entries.
use Rattle.std.proofs.Common.{◌≡◌, ℕ, zero, suc, ◌+◌, ◌<◌, ◌≤◌, Bool, true, false, cond, if◌then◌else◌, List, [], ◌∷◌, ◌++◌, length}
use Rattle.std.proofs.Common.{not, eqb, ltb, replicate, slice_get, slice_set, Option, MatchOption, Some, None, refl, sym, ap, ap₂, ◌∙◌, arith}
use Rattle.std.proofs.Common.{length-append}
use Rattle.std.specs.Cmp.{IsTotalOrder}
use Rattle.std.specs.List.{position, position_or_len}
use Rattle.std.specs.Option.{option_and_then, option_map}
use Rattle.std.specs.declared.cmp.Ordering.{Ordering}
use Rattle.std.specs.Ordering.{is_eq}
use Rattle.std.proofs.lemmas.Cmp.{eq_by_cmp_equiv}
use Rattle.std.proofs.lemmas.Bool.{eqb-false}
use Rattle.std.proofs.lemmas.List.{append-nil, append_assoc, length-replicate, replicate-append-replicate}
use Rattle.std.proofs.lemmas.Bool.Decides.{nat_tests}
use Rattle.fairness.specs.Lists.Sorted.{value_at}
use Rattle.fairness.specs.Sides.Subjects.{same_peer}
use Rattle.peer_numbers.specs.Peers.{number_of}
use Rattle.link_pairs.specs.Pairs.Room.{IsFilledUp}
use Rattle.peer_numbers.proofs.Peers.{same_number, other_peer}

-- ---- places

pub get_set_here : {X : Type 0} (xs : List X) (at : ℕ) (y : X) → at < length xs
    → slice_get (slice_set xs at y) at ≡ Some y
get_set_here [] at y low = absurd (omega (arith, low))
get_set_here (x ∷ xs) zero y low = refl
get_set_here (x ∷ xs) (suc at) y low = get_set_here xs at y (omega (arith, low))

pub get_set_other : {X : Type 0} (xs : List X) (to at : ℕ) (y : X) → (to ≡ at → ⊥)
    → slice_get (slice_set xs to y) at ≡ slice_get xs at
get_set_other [] to at y other = refl
get_set_other (x ∷ xs) zero zero y other = absurd (other refl)
get_set_other (x ∷ xs) zero (suc at) y other = refl
get_set_other (x ∷ xs) (suc to) zero y other = refl
get_set_other (x ∷ xs) (suc to) (suc at) y other = get_set_other xs to at y (λ same. other (ap suc same))

shifted : (m n : ℕ) → cond (ltb (1 + m) (suc n)) (Some (1 + m)) None ≡ option_map suc (cond (ltb m n) (Some m) None)
shifted m n =
    let same : ltb (1 + m) (suc n) ≡ ltb m n = grind arith in
    ap (λ b. cond b (Some (1 + m)) None) same ∙ by (ltb m n)
  where
    by : (b : Bool) → cond b (Some (1 + m)) None ≡ option_map suc (cond b (Some m) None)
    by true = ap Some (omega arith)
    by false = refl

-- the place of the first that passes, by whether the first element does
position_first : {X : Type 0} (p : X → Bool) (x : X) (xs : List X)
    → position p (x ∷ xs) ≡ cond (p x) (Some 0) (option_map suc (position p xs))
position_first p x xs = by (p x) refl
  where
    by : (b : Bool) → p x ≡ b → position p (x ∷ xs) ≡ cond b (Some 0) (option_map suc (position p xs))
    by true h =
        let low : ltb 0 (suc (length xs)) ≡ true = grind arith in
        ap (λ b. let at = cond (not b) (1 + position_or_len p xs) 0 in cond (ltb at (suc (length xs))) (Some at) None) h
        ∙ ap (λ b. cond b (Some 0) None) low
    by false h =
        ap (λ b. let at = cond (not b) (1 + position_or_len p xs) 0 in cond (ltb at (suc (length xs))) (Some at) None) h
        ∙ shifted (position_or_len p xs) (length xs)

-- what an item says that was read
pub read : {B I : Type 0} (now : B → I) (says : I → Option ℕ) (o : Option B)
    → option_and_then (λ b. says (now b)) o ≡ option_and_then says (option_map now o)
read now says None = refl
read now says (Some b) = refl

module _ {I : Type 0} (says : I → Option ℕ) where
  -- what is said by number
  abbrev pub said : List I → Option ℕ → Option ℕ
  said items number = option_and_then (λ n. option_and_then says (slice_get items n)) number

  filled_none : (filler : I) (count : ℕ) → says filler ≡ None → (n : ℕ)
      → option_and_then says (slice_get (replicate count filler) n) ≡ None
  filled_none filler zero nothing n = refl
  filled_none filler (suc count) nothing zero = nothing
  filled_none filler (suc count) nothing (suc n) = filled_none filler count nothing n

  filled : (items : List I) (filler : I) (count : ℕ) → says filler ≡ None → (n : ℕ)
      → option_and_then says (slice_get (items ++ replicate count filler) n) ≡ option_and_then says (slice_get items n)
  filled [] filler count nothing n = filled_none filler count nothing n
  filled (i ∷ items) filler count nothing zero = refl
  filled (i ∷ items) filler count nothing (suc n) = filled items filler count nothing n

  said_nothing : (number : Option ℕ) → None ≡ said [] number
  said_nothing None = refl
  said_nothing (Some n) = refl

  said_first : (b : Bool) (i : I) (items : List I) (number : Option ℕ)
      → (if b then says i else said items number) ≡ said (i ∷ items) (cond b (Some 0) (option_map suc number))
  said_first true i items number = refl
  said_first false i items None = refl
  said_first false i items (Some n) = refl

  -- what says nothing may come to the end
  pub said_filled : (items : List I) (filler : I) (count : ℕ) → says filler ≡ None → (number : Option ℕ)
      → said (items ++ replicate count filler) number ≡ said items number
  said_filled items filler count nothing None = refl
  said_filled items filler count nothing (Some n) = filled items filler count nothing n

module _ {K I E : Type 0} (make : K → I → E) where
  -- an entry for each key that has an item
  abbrev pub entries_of : List K → List I → List E
  entries_of [] items = []
  entries_of (k ∷ keys) [] = []
  entries_of (k ∷ keys) (i ∷ items) = make k i ∷ entries_of keys items

  -- more keys than items say no more
  pub entries_of-more : (keys more : List K) (items : List I) → length items ≤ length keys
      → entries_of (keys ++ more) items ≡ entries_of keys items
  entries_of-more [] [] [] h = refl
  entries_of-more [] (m ∷ more) [] h = refl
  entries_of-more [] more (i ∷ items) h = absurd (omega (arith, h))
  entries_of-more (k ∷ keys) more [] h = refl
  entries_of-more (k ∷ keys) more (i ∷ items) h =
      ap (λ es. make k i ∷ es) (entries_of-more keys more items (omega (arith, h)))

module _ {K I E : Type 0} (cmp : K → K → Ordering) (total : IsTotalOrder cmp) (make : K → I → E) (key : E → K)
    (is_key : (k : K) (i : I) → key (make k i) ≡ k) (value : E → Option ℕ) (says : I → Option ℕ)
    (is_value : (k : K) (i : I) → value (make k i) ≡ says i) where
  -- what is known of a key is what is said by its number
  pub value_by_number : (keys : List K) (items : List I) (k : K)
      → value_at cmp key value None (entries_of make keys items) k ≡ said says items (number_of cmp keys k)
  value_by_number [] items k = refl
  value_by_number (x ∷ keys) [] k = said_nothing says (number_of cmp (x ∷ keys) k)
  value_by_number (x ∷ keys) (i ∷ items) k =
      let rest = value_at cmp key value None (entries_of make keys items) k in
      ap (λ b. if b then value (make x i) else rest)
      (ap (λ y. is_eq (cmp y k)) (is_key x i) ∙ (eq_by_cmp_equiv total).symm x k)
      ∙ ap₂ (λ here later. if same_peer cmp k x then here else later) (is_value x i) (value_by_number keys items k)
      ∙ said_first says (same_peer cmp k x) i items (number_of cmp keys k)
      ∙ sym (ap (said says (i ∷ items)) (position_first (same_peer cmp k) x keys))

  -- what says nothing may come to the end
  pub value_filled : (keys : List K) (items : List I) (filler : I) (count : ℕ) → says filler ≡ None → (k : K)
      → value_at cmp key value None (entries_of make keys (items ++ replicate count filler)) k
      ≡ value_at cmp key value None (entries_of make keys items) k
  value_filled keys items filler count nothing k =
      value_by_number keys (items ++ replicate count filler) k
      ∙ said_filled says items filler count nothing (number_of cmp keys k)
      ∙ sym (value_by_number keys items k)

  -- once an item is set, another is said of its key
  pub value_set : (keys : List K) (items : List I) (k : K) (n : ℕ) (item : I) → number_of cmp keys k ≡ Some n
      → n < length items → (q : K)
      → value_at cmp key value None (entries_of make keys (slice_set items n item)) q
      ≡ (if same_peer cmp k q then says item else value_at cmp key value None (entries_of make keys items) q)
  value_set keys items k n item is within q =
      value_by_number keys (slice_set items n item) q
      ∙ by (number_of cmp keys q) refl
      ∙ ap (λ r. if same_peer cmp k q then says item else r) (sym (value_by_number keys items q))
    where
      at : (m : ℕ) → eqb m n ≡ same_peer cmp k q → (b : Bool) → eqb m n ≡ b
          → option_and_then says (slice_get (slice_set items n item) m)
          ≡ (if same_peer cmp k q then says item else option_and_then says (slice_get items m))
      at m tells true e =
          let here : m ≡ n = grind (arith, nat_tests) in
          ap (λ i. option_and_then says (slice_get (slice_set items n item) i)) here
          ∙ ap (option_and_then says) (get_set_here items n item within)
          ∙ ap (λ b. if b then says item else option_and_then says (slice_get items m)) (sym e ∙ tells)
      at m tells false e =
          ap (option_and_then says) (get_set_other items n m item (λ same. eqb-false m n e (sym same)))
          ∙ ap (λ b. if b then says item else option_and_then says (slice_get items m)) (sym e ∙ tells)

      by : (number : Option ℕ) → number_of cmp keys q ≡ number → said says (slice_set items n item) number
          ≡ (if same_peer cmp k q then says item else said says items number)
      by None h =
          ap (λ b. if b then says item else None)
          (sym ((eq_by_cmp_equiv total).symm k q ∙ other_peer cmp total keys q k n h is))
      by (Some m) h = at m (same_number cmp total keys k q n m is h) (eqb m n) refl

-- ---- more keys and more room

-- keys have come to the end
pub record IsGrown {K : Type 0} (keys new : List K) : Type 0 where
  pub more : List K
  pub is : new ≡ keys ++ more

pub grown : {K : Type 0} (keys new : List K) (Q : K → Type 0) (found : Option ℕ)
    → MatchOption found ((copy : K) × Q copy × (new ≡ keys ++ copy ∷ [])) (λ number. new ≡ keys) → IsGrown keys new
grown keys new Q None w = record { more = w.0 ∷ []; is = w.2 }
grown keys new Q (Some number) w = record { more = []; is = w ∙ sym (append-nil keys) }

pub grown_length : {K : Type 0} (keys new : List K) → IsGrown keys new → length keys ≤ length new
grown_length keys new g = omega (arith, ap length g.is, length-append keys g.more)

-- there is no more room than for the keys
pub filled_within : {I : Type 0} (items filled : List I) (item : I) (place bound : ℕ) → IsFilledUp items item place filled
    → length items ≤ bound → place < bound → length filled ≤ bound
filled_within items filled item place bound fill few below =
    let few_more = fill.few in
    omega (
      arith,
      ap length fill.is,
      length-append items (replicate fill.count item),
      length-replicate fill.count item,
    )

-- one more of it is added
pub filled_more : {I : Type 0} (items now new : List I) (item : I) (place : ℕ) → IsFilledUp items item place now
    → length now ≤ place → new ≡ now ++ item ∷ [] → IsFilledUp items item place new
filled_more items now new item place fill low is = record {
  count = fill.count + 1;
  is = is
      ∙ ap (λ list. list ++ item ∷ []) fill.is
      ∙ append_assoc items (replicate fill.count item) (item ∷ [])
      ∙ ap (λ list. items ++ list) (replicate-append-replicate fill.count 1 item);
  few = omega (
    arith,
    ap length fill.is,
    length-append items (replicate fill.count item),
    length-replicate fill.count item,
  );
}
