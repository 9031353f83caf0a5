-- Places that are listed in order are those at which a test passes.
use Rattle.link_flights.proofs.Common.{◌≡◌, ℕ, zero, suc, ◌+◌, ◌<◌, ◌≤◌, Bool, true, false, List, [], ◌∷◌, ◌++◌, length}
use Rattle.link_flights.proofs.Common.{Some, get_or, slice_get, All, refl, sym, ap, ◌∙◌, subst, arith, inl, inr}
use Rattle.link_flights.proofs.Common.{false≢true, none-some, same_Some, In, places_of, Ascends}
use Rattle.link_flights.proofs.Flights.Places.{places_yes, places_no}

no_less : (first : ℕ) (ps : List ℕ) → Ascends first ps → (p : ℕ) → In ps p → first ≤ p
no_less first [] a p h = absurd h
no_less first (q ∷ qs) (from, rest) p (inl e) = omega (arith, from, e)
no_less first (q ∷ qs) (from, rest) p (inr h) = omega (arith, from, no_less (suc q) qs rest p h)

-- one more comes to the end, where all are less
pub ascends_at_end : (first : ℕ) (ps : List ℕ) (at : ℕ) → Ascends first ps → first ≤ at → All (λ p. p < at) ps
    → Ascends first (ps ++ at ∷ [])
ascends_at_end first [] at order from below = (from, tt)
ascends_at_end first (p ∷ ps) at (low, rest) from below =
    let less : p < at = below 0 p (omega arith) in (
      low,
      ascends_at_end (suc p) ps at rest (omega (arith, less)) (λ k d inside. below (suc k) d (omega (arith, inside))),
    )

-- where each is less than the next, they are in order
pub ascends_by_pairs : (first : ℕ) (ps : List ℕ) → (0 < length ps → first ≤ get_or ps 0 0)
    → ((k : ℕ) → suc k < length ps → get_or ps k 0 < get_or ps (suc k) 0) → Ascends first ps
ascends_by_pairs first [] from rises = tt
ascends_by_pairs first (p ∷ ps) from rises = (
  from (omega arith),
  ascends_by_pairs (suc p) ps (λ inside. rises 0 (omega (arith, inside)))
      (λ k inside. rises (suc k) (omega (arith, inside))),
)

module _ {X : Type 0} (test : X → Bool) where
  -- the test passes at a place, where the first of the list has a place
  pub record PassesAt (first : ℕ) (xs : List X) (p : ℕ) : Type 0 where
    pub at : ℕ
    pub one : X
    pub place : p ≡ first + at
    pub there : slice_get xs at ≡ Some one
    pub passes : test one ≡ true

  later : (first : ℕ) (x : X) (xs : List X) (p : ℕ) → PassesAt first (x ∷ xs) p → suc first ≤ p
      → PassesAt (suc first) xs p
  later first x xs p passes past = by_place passes.at passes.place passes.there
    where
      by_place : (at : ℕ) → p ≡ first + at → slice_get (x ∷ xs) at ≡ Some passes.one → PassesAt (suc first) xs p
      by_place zero place there = absurd (omega (arith, place, past))
      by_place (suc at) place there = record {
        at = at;
        one = passes.one;
        place = omega (arith, place);
        there = there;
        passes = passes.passes;
      }

  not_here : (first : ℕ) (x : X) (xs : List X) (p : ℕ) → test x ≡ false → PassesAt first (x ∷ xs) p → first ≤ p
      → suc first ≤ p
  not_here first x xs p fails passes from = by_place passes.at passes.place passes.there
    where
      by_place : (at : ℕ) → p ≡ first + at → slice_get (x ∷ xs) at ≡ Some passes.one → suc first ≤ p
      by_place zero place there = absurd (false≢true (sym fails ∙ ap test (same_Some x passes.one there) ∙ passes.passes))
      by_place (suc at) place there = omega (arith, place)

  pub places_are : (first : ℕ) (xs : List X) (near : List ℕ) → Ascends first near
      → ((p : ℕ) → In near p → PassesAt first xs p)
      → ((k : ℕ) (one : X) → slice_get xs k ≡ Some one → test one ≡ true → In near (first + k))
      → near ≡ places_of test first xs
  places_are first [] [] order each all = refl
  places_are first [] (p ∷ ps) order each all =
      let passes = each p (inl refl) in absurd (none-some passes.one passes.there)
  places_are first (x ∷ xs) near order each all = by_test (test x) refl (places_are (suc first) xs)
    where
      -- the first one has the first place
      begins : (ps : List ℕ) → Ascends first ps → In ps first → test x ≡ true
          → ((p : ℕ) → In ps p → PassesAt first (x ∷ xs) p)
          → ((k : ℕ) (one : X) → slice_get xs k ≡ Some one → test one ≡ true → In ps (suc first + k))
          → ((qs : List ℕ) → Ascends (suc first) qs → ((p : ℕ) → In qs p → PassesAt (suc first) xs p)
          → ((k : ℕ) (one : X) → slice_get xs k ≡ Some one → test one ≡ true → In qs (suc first + k))
          → qs ≡ places_of test (suc first) xs)
          → ps ≡ places_of test first (x ∷ xs)
      begins [] order here passes each all ih = absurd here
      begins (p ∷ ps) (from, rest) here passes each all ih =
          let same : p ≡ first = elim here [
            | inl e ↦ e
            | inr h ↦ let past = no_less (suc p) ps rest first h in absurd (omega (arith, past, from))
          ] in
          let on : Ascends (suc first) ps = subst (λ q. Ascends (suc q) ps) same rest in
          let tail = ih ps on
          (λ q h. later first x xs q (each q (inr h)) (no_less (suc first) ps on q h))
          (λ k one there is. elim (all k one there is) [
            | inl e ↦ absurd (omega (arith, e, same))
            | inr h ↦ h
          ]) in
          ap (λ q. q ∷ ps) same ∙ ap (λ qs. first ∷ qs) tail ∙ sym (places_yes test first x xs passes)

      after : (ps : List ℕ) → Ascends first ps → ((p : ℕ) → In ps p → suc first ≤ p) → Ascends (suc first) ps
      after [] order past = order
      after (p ∷ ps) (from, rest) past = (past p (inl refl), rest)

      by_test : (b : Bool) → test x ≡ b
          → ((qs : List ℕ) → Ascends (suc first) qs → ((p : ℕ) → In qs p → PassesAt (suc first) xs p)
          → ((k : ℕ) (one : X) → slice_get xs k ≡ Some one → test one ≡ true → In qs (suc first + k))
          → qs ≡ places_of test (suc first) xs)
          → near ≡ places_of test first (x ∷ xs)
      by_test true passes ih =
          begins near order (subst (In near) (omega arith) (all 0 x refl passes)) passes each
          (λ k one there is. subst (In near) (omega arith) (all (suc k) one there is)) ih
      by_test false fails ih =
          let past : (p : ℕ) → In near p → suc first ≤ p =
          λ p h. not_here first x xs p fails (each p h) (no_less first near order p h) in
          ih near (after near order past) (λ p h. later first x xs p (each p h) (past p h))
          (λ k one there is. subst (In near) (omega arith) (all (suc k) one there is))
          ∙ sym (places_no test first x xs fails)
