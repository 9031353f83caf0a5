-- Ordered pairs of peers with numbers: what their ends say, and what one more pair changes.
use Rattle.std.proofs.Common.{◌≡◌, ℕ, zero, suc, ◌+◌, ◌<◌, Bool, true, false, not, ◌&&◌, cond, List, [], ◌∷◌, ◌++◌, length, map}
use Rattle.std.proofs.Common.{eqb, ltb, get_or, slice_get, Option, MatchOption, Some, None, Result, Ok, Err, OnOk, OnErr, refl, sym, ap, ap₂, subst, ◌∙◌}
use Rattle.std.proofs.Common.{arith}
use mathlib.Core.Path.{fun_ext}
use Rattle.std.specs.Cmp.{IsTotalOrder}
use Rattle.std.specs.List.{position, position_or_len}
use Rattle.std.specs.Option.{option_or}
use Rattle.std.specs.declared.cmp.Ordering.{Ordering}
use Rattle.std.specs.declared.cmp.Ordering.TheVariants.{Less, Equal, Greater}
use Rattle.std.specs.Ordering.{is_eq, ordering_then}
use Rattle.std.proofs.lemmas.Bool.{and_from}
use Rattle.std.proofs.lemmas.Cmp.{on_total, then_total, tied_back}
use Rattle.std.proofs.lemmas.List.{length-map, map-append, append_assoc}
use Rattle.std.proofs.lemmas.List.Elements.{All-head, All-tail, All-push, All-weaker}
use Rattle.std.proofs.lemmas.List.Quantifiers.{position-Some}
use Rattle.std.proofs.lemmas.Option.{slice_get-get_or}
use Rattle.fairness.proofs.Lists.Sorted.{is_eq_equal}
use Rattle.fairness.specs.Sides.Subjects.{same_peer}
use Rattle.peer_numbers.specs.declared.ends.Ends.{Ends}
use Rattle.peer_numbers.specs.Ends.{same_ends, number_of_ends, IsWithEnds}
use Rattle.peer_numbers.specs.Peers.{number_of, IsWithPeer}
use Rattle.peer_numbers.specs.Pairs.{is_pair_of, number_of_pair, IsWithPair, both, listed_pairs, IsFirstPlace, AreEnds, ArePairsNumbered}
use Rattle.peer_numbers.proofs.EndPlaces.{eqb_flip}
use Rattle.peer_numbers.proofs.Peers.{position_push, number_of-same}
use Rattle.peer_numbers.proofs.Peers.{same_number as same_number_of_peer, number_stays as number_of_peer_stays, other_peer}

-- ---- places

-- where two tests say the same of two lists, the first that passes has one place
position_or_len_alike : {X Y : Type 0} (p : X → Bool) (q : Y → Bool) (xs : List X) (ys : List Y) → map p xs ≡ map q ys
    → position_or_len p xs ≡ position_or_len q ys
position_or_len_alike p q [] [] h = refl
position_or_len_alike p q [] (y ∷ ys) h = cc
position_or_len_alike p q (x ∷ xs) [] h = cc
position_or_len_alike p q (x ∷ xs) (y ∷ ys) h =
    let first : p x ≡ q y = cc in
    let rest : map p xs ≡ map q ys = cc in
    ap₂ (λ b n. cond (not b) (1 + n) 0) first (position_or_len_alike p q xs ys rest)

position_alike : {X Y : Type 0} (p : X → Bool) (q : Y → Bool) (xs : List X) (ys : List Y) → map p xs ≡ map q ys
    → position p xs ≡ position q ys
position_alike p q xs ys h =
    let long : length xs ≡ length ys = sym (length-map xs p) ∙ ap length h ∙ length-map ys q in
    ap₂ (λ at len. cond (ltb at len) (Some at) None) (position_or_len_alike p q xs ys h) long

all_fail : {X : Type 0} (xs : List X) → position_or_len (λ x. false) xs ≡ length xs
all_fail [] = refl
all_fail (x ∷ xs) = omega (arith, all_fail xs)

-- where none passes there is no place
position_none : {X : Type 0} (xs : List X) → position (λ x. false) xs ≡ None
position_none xs =
    let not_below : ltb (length xs) (length xs) ≡ false = grind arith in
    ap (λ at. cond (ltb at (length xs)) (Some at) None) (all_fail xs)
    ∙ ap (λ b. cond b (Some (length xs)) None) not_below

got_before : {X : Type 0} (xs ys : List X) (i : ℕ) (x : X) → slice_get xs i ≡ Some x → slice_get (xs ++ ys) i ≡ Some x
got_before [] ys i x h = cc
got_before (y ∷ xs) ys zero x h = h
got_before (y ∷ xs) ys (suc i) x h = got_before xs ys i x h

and_false : (b : Bool) → (b && false) ≡ false
and_false true = refl
and_false false = refl

-- ---- the order of pairs

-- two pairs are one where both parts are
pub is_eq-then : (o p : Ordering) → is_eq (ordering_then o p) ≡ (is_eq o && is_eq p)
is_eq-then Less p = refl
is_eq-then Equal p = refl
is_eq-then Greater p = refl

-- how one pair stands to another: by origin, then by recipient
abbrev pub order_of_pairs : {P : Type 0} → (P → P → Ordering) → (P × P) → (P × P) → Ordering
order_of_pairs cmp a b = ordering_then (cmp a.0 b.0) (cmp a.1 b.1)

pub order_of_pairs-total : {P : Type 0} (cmp : P → P → Ordering) → IsTotalOrder cmp
    → IsTotalOrder (order_of_pairs cmp)
order_of_pairs-total {P} cmp total =
    then_total (on_total (λ (p : P × P). p.0) total) (on_total (λ (p : P × P). p.1) total)

-- a pair is a peer by that order
pub number_of_pair-is : {P : Type 0} (cmp : P → P → Ordering) (pairs : List (P × P)) (origin recipient : P)
    → number_of_pair cmp pairs origin recipient ≡ number_of (order_of_pairs cmp) pairs (origin, recipient)
number_of_pair-is cmp pairs origin recipient =
    ap (λ test. position test pairs)
    (fun_ext (λ pair. sym (is_eq-then (cmp origin pair.0) (cmp recipient pair.1))))

-- what holds at all events holds after an error
pub on_err : {T E Q : Type 0} (r : Result T E) → Q → OnErr r Q
on_err (Ok t) q = tt
on_err (Err e) q = q

-- ---- what users need

module _ {P : Type 0} (cmp : P → P → Ordering) (total : IsTotalOrder cmp) (pairs : List (P × P)) where
  -- two pairs with numbers have one number just where they are one
  pub same_number : (o r p q : P) (number there : ℕ) → number_of_pair cmp pairs o r ≡ Some number
      → number_of_pair cmp pairs p q ≡ Some there → eqb there number ≡ (same_peer cmp o p && same_peer cmp r q)
  same_number o r p q number there h k =
      same_number_of_peer (order_of_pairs cmp) (order_of_pairs-total cmp total) pairs (o, r) (p, q) number there
      (sym (number_of_pair-is cmp pairs o r) ∙ h) (sym (number_of_pair-is cmp pairs p q) ∙ k)
      ∙ is_eq-then (cmp o p) (cmp r q)

  -- one that has none is not one with a pair that has
  pub other_pair : (o r p q : P) (there : ℕ) → number_of_pair cmp pairs o r ≡ None
      → number_of_pair cmp pairs p q ≡ Some there → (same_peer cmp o p && same_peer cmp r q) ≡ false
  other_pair o r p q there h k =
      sym (is_eq-then (cmp o p) (cmp r q))
      ∙ other_peer (order_of_pairs cmp) (order_of_pairs-total cmp total) pairs (o, r) (p, q) there
      (sym (number_of_pair-is cmp pairs o r) ∙ h) (sym (number_of_pair-is cmp pairs p q) ∙ k)

-- a number is below how many there are
pub number_below : {P : Type 0} (cmp : P → P → Ordering) (pairs : List (P × P)) (o r : P) (number : ℕ)
    → number_of_pair cmp pairs o r ≡ Some number → number < length pairs
number_below cmp pairs o r number h = (position-Some (is_pair_of cmp o r) pairs number (o, r) h).0

-- a pair keeps its number
pub number_stays : {P : Type 0} (cmp : P → P → Ordering) (pairs : List (P × P)) (o r : P) (new : List (P × P))
    → IsWithPair cmp pairs o r new → (p q : P) (number : ℕ) → number_of_pair cmp pairs p q ≡ Some number
    → number_of_pair cmp new p q ≡ Some number
number_stays {P = P} cmp pairs o r new with p q number h = by (number_of_pair cmp pairs o r) with
  where
    by : (found : Option ℕ)
        → MatchOption found
        ((copy : P × P) × (is_pair_of cmp o r copy ≡ true) × (new ≡ pairs ++ copy ∷ []))
        (λ number. new ≡ pairs)
        → number_of_pair cmp new p q ≡ Some number
    by None w =
        ap (λ list. number_of_pair cmp list p q) w.2
        ∙ position_push (is_pair_of cmp p q) pairs w.0
        ∙ ap (λ found. option_or found (cond (is_pair_of cmp p q w.0) (Some (length pairs)) None)) h
    by (Some at) w = ap (λ list. number_of_pair cmp list p q) w ∙ h

-- ---- the pairs that the ends list

module _ {P : Type 0} (cmp : P → P → Ordering) where
  -- as many as there are ends
  pub length_listed : (peers : List P) (ends : List Ends) → ArePairsNumbered cmp peers ends
      → length (listed_pairs peers ends) ≡ length ends
  length_listed peers [] h = refl
  length_listed peers (e ∷ ends) h =
      let first = All-head (AreEnds cmp peers) e ends h in
      let rest = length_listed peers ends (All-tail (AreEnds cmp peers) e ends h) in
      rw (first.origin.there, first.recipient.there) (ap suc rest)

  -- one more of the ends
  pub listed_push : (peers : List P) (ends : List Ends) (e : Ends) (o r : P) → slice_get peers e.origin ≡ Some o
      → slice_get peers e.recipient ≡ Some r
      → listed_pairs peers (ends ++ e ∷ []) ≡ listed_pairs peers ends ++ (o, r) ∷ []
  listed_push peers [] e o r h k = rw (h, k) refl
  listed_push peers (d ∷ ends) e o r h k =
      ap (λ pairs. both (slice_get peers d.origin) (slice_get peers d.recipient) ++ pairs) (listed_push peers ends e o r h k)
      ∙ sym
      (append_assoc (both (slice_get peers d.origin) (slice_get peers d.recipient)) (listed_pairs peers ends)
      ((o, r) ∷ []))

  -- what a test says of the pairs, where it says that of each
  mapped : (peers : List P) (test : P × P → Bool) (says : Ends → Bool)
      → ((e : Ends) → AreEnds cmp peers e
      → map test (both (slice_get peers e.origin) (slice_get peers e.recipient)) ≡ says e ∷ [])
      → (ends : List Ends) → ArePairsNumbered cmp peers ends → map test (listed_pairs peers ends) ≡ map says ends
  mapped peers test says each [] h = refl
  mapped peers test says each (e ∷ ends) h =
      map-append test (both (slice_get peers e.origin) (slice_get peers e.recipient)) (listed_pairs peers ends)
      ∙ ap₂ (λ a b. a ++ b) (each e (All-head (AreEnds cmp peers) e ends h))
      (mapped peers test says each ends (All-tail (AreEnds cmp peers) e ends h))

  -- ---- one more peer

  place_stays : (peers new : List P) (peer : P) → IsWithPeer cmp peers peer new → (place : ℕ)
      → (first : IsFirstPlace cmp peers place) → slice_get new place ≡ Some first.peer
  place_stays peers new peer with place first = by (number_of cmp peers peer) with
    where
      by : (found : Option ℕ)
          → MatchOption found
          ((copy : P) × (same_peer cmp copy peer ≡ true) × (new ≡ peers ++ copy ∷ []))
          (λ number. new ≡ peers)
          → slice_get new place ≡ Some first.peer
      by None w =
          ap (λ list. slice_get list place) w.2 ∙ got_before peers (w.0 ∷ []) place first.peer first.there
      by (Some at) w = ap (λ list. slice_get list place) w ∙ first.there

  first_stays : (peers new : List P) (peer : P) → IsWithPeer cmp peers peer new → (place : ℕ)
      → IsFirstPlace cmp peers place → IsFirstPlace cmp new place
  first_stays peers new peer with place first = record {
    peer = first.peer;
    there = place_stays peers new peer with place first;
    first = number_of_peer_stays cmp peers peer new with first.peer place first.first;
  }

  ends_stay : (peers new : List P) (peer : P) → IsWithPeer cmp peers peer new → (e : Ends) → AreEnds cmp peers e
      → AreEnds cmp new e
  ends_stay peers new peer with e h = record {
    origin = first_stays peers new peer with e.origin h.origin;
    recipient = first_stays peers new peer with e.recipient h.recipient;
  }

  pub all_stay : (peers new : List P) (peer : P) → IsWithPeer cmp peers peer new → (ends : List Ends)
      → ArePairsNumbered cmp peers ends → ArePairsNumbered cmp new ends
  all_stay peers new peer with ends h =
      All-weaker (AreEnds cmp peers) (AreEnds cmp new) (ends_stay peers new peer with) ends h

  pub listed_stay : (peers new : List P) (peer : P) → IsWithPeer cmp peers peer new → (ends : List Ends)
      → ArePairsNumbered cmp peers ends → listed_pairs new ends ≡ listed_pairs peers ends
  listed_stay peers new peer with [] h = refl
  listed_stay peers new peer with (e ∷ ends) h =
      let first = All-head (AreEnds cmp peers) e ends h in
      ap₂ (λ a b. a ++ b)
      (ap₂ both (place_stays peers new peer with e.origin first.origin ∙ sym first.origin.there)
      (place_stays peers new peer with e.recipient first.recipient ∙ sym first.recipient.there))
      (listed_stay peers new peer with ends (All-tail (AreEnds cmp peers) e ends h))

module _ {P : Type 0} (cmp : P → P → Ordering) (total : IsTotalOrder cmp) where
  -- the place that is a peer's number
  pub first_place : (peers : List P) (peer : P) (number : ℕ) → number_of cmp peers peer ≡ Some number
      → IsFirstPlace cmp peers number
  first_place peers peer number h =
      let found = position-Some (same_peer cmp peer) peers number peer h in
      let there = get_or peers number peer in
      record {
        peer = there;
        there = slice_get-get_or peers number peer found.0;
        first = number_of-same cmp total peers peer there (tied_back total peer there (is_eq_equal _ found.1)) ∙ h;
      }

  -- the peers of the ends are those with their numbers
  of_ends : (peers : List P) (o r : P) (e d : Ends) → AreEnds cmp peers d
      → number_of cmp peers o ≡ Some e.origin → number_of cmp peers r ≡ Some e.recipient
      → map (is_pair_of cmp o r) (both (slice_get peers d.origin) (slice_get peers d.recipient))
      ≡ (eqb d.origin e.origin && eqb d.recipient e.recipient) ∷ []
  of_ends peers o r e d h origin recipient =
      rw (h.origin.there, h.recipient.there)
      (ap₂ (λ a b. (a && b) ∷ [])
      (sym (same_number_of_peer cmp total peers o h.origin.peer e.origin d.origin origin h.origin.first))
      (sym (same_number_of_peer cmp total peers r h.recipient.peer e.recipient d.recipient recipient h.recipient.first)))

  -- a pair has the number of its ends
  pub number_by_ends : (peers : List P) (ends : List Ends) → ArePairsNumbered cmp peers ends → (o r : P) (e : Ends)
      → number_of cmp peers o ≡ Some e.origin → number_of cmp peers r ≡ Some e.recipient
      → number_of_pair cmp (listed_pairs peers ends) o r ≡ number_of_ends ends e
  number_by_ends peers ends h o r e origin recipient =
      position_alike (is_pair_of cmp o r) (same_ends e) (listed_pairs peers ends) ends
      (mapped cmp peers (is_pair_of cmp o r) (same_ends e) (λ d are. of_ends peers o r e d are origin recipient
      ∙ ap₂ (λ a b. (a && b) ∷ []) (eqb_flip d.origin e.origin) (eqb_flip d.recipient e.recipient))
      ends h)

  -- a peer that has no number is in no pair
  pub no_origin : (peers : List P) (ends : List Ends) → ArePairsNumbered cmp peers ends → (o r : P)
      → number_of cmp peers o ≡ None → None ≡ number_of_pair cmp (listed_pairs peers ends) o r
  no_origin peers ends h o r none =
      sym
      (position_alike (is_pair_of cmp o r) (λ e. false) (listed_pairs peers ends) ends
      (mapped cmp peers (is_pair_of cmp o r) (λ e. false)
      (λ d are. rw (are.origin.there, are.recipient.there)
      (ap (λ b. (b && same_peer cmp r are.recipient.peer) ∷ [])
      (other_peer cmp total peers o are.origin.peer d.origin none are.origin.first)))
      ends h)
      ∙ position_none ends)

  pub no_recipient : (peers : List P) (ends : List Ends) → ArePairsNumbered cmp peers ends → (o r : P)
      → number_of cmp peers r ≡ None → None ≡ number_of_pair cmp (listed_pairs peers ends) o r
  no_recipient peers ends h o r none =
      sym
      (position_alike (is_pair_of cmp o r) (λ e. false) (listed_pairs peers ends) ends
      (mapped cmp peers (is_pair_of cmp o r) (λ e. false)
      (λ d are. rw (are.origin.there, are.recipient.there)
      (ap (λ b. (same_peer cmp o are.origin.peer && b) ∷ [])
      (other_peer cmp total peers r are.recipient.peer d.recipient none are.recipient.first)
      ∙ ap (λ b. b ∷ []) (and_false (same_peer cmp o are.origin.peer))))
      ends h)
      ∙ position_none ends)

-- ---- one more of the ends

module _ {P : Type 0} (cmp : P → P → Ordering) (total : IsTotalOrder cmp) where
  -- the pairs with that of two peers
  pub record IsMorePairs (peers : List P) (ends : List Ends) (o r : P) (new : List Ends) : Type 0 where
    pub numbered : ArePairsNumbered cmp peers new
    pub pairs : IsWithPair cmp (listed_pairs peers ends) o r (listed_pairs peers new)

  one_with : (peers : List P) (peer : P) (number : ℕ) → number_of cmp peers peer ≡ Some number
      → (first : IsFirstPlace cmp peers number) → same_peer cmp peer first.peer ≡ true
  one_with peers peer number h first =
      let itself : eqb number number ≡ true = grind arith in
      sym (same_number_of_peer cmp total peers peer first.peer number number h first.first) ∙ itself

  -- the next number goes to a pair that has none
  more_pairs : (peers : List P) (ends : List Ends) → ArePairsNumbered cmp peers ends → (o r : P) (e : Ends)
      → number_of cmp peers o ≡ Some e.origin → number_of cmp peers r ≡ Some e.recipient → number_of_ends ends e ≡ None
      → IsMorePairs peers ends o r (ends ++ e ∷ [])
  more_pairs peers ends h o r e origin recipient none =
      let o_there = first_place cmp total peers o e.origin origin in
      let r_there = first_place cmp total peers r e.recipient recipient in
      let absent = number_by_ends cmp total peers ends h o r e origin recipient ∙ none in
      let all = listed_push cmp peers ends e o_there.peer r_there.peer o_there.there r_there.there in
      record {
        numbered = All-push (AreEnds cmp peers) ends e h (record { origin = o_there; recipient = r_there });
        pairs = subst (λ (found : Option ℕ). MatchOption found
            ((one : P × P) × (is_pair_of cmp o r one ≡ true)
            × (listed_pairs peers (ends ++ e ∷ []) ≡ listed_pairs peers ends ++ one ∷ []))
            (λ number. listed_pairs peers (ends ++ e ∷ []) ≡ listed_pairs peers ends))
            (sym absent) (
              (o_there.peer, r_there.peer),
              and_from (same_peer cmp o o_there.peer) (same_peer cmp r r_there.peer) (one_with peers o e.origin origin o_there)
                  (one_with peers r e.recipient recipient r_there),
              all,
            );
      }

  -- one that has a number keeps it
  same_pairs : (peers : List P) (ends : List Ends) → ArePairsNumbered cmp peers ends → (o r : P) (number : ℕ)
      → number_of_pair cmp (listed_pairs peers ends) o r ≡ Some number → IsMorePairs peers ends o r ends
  same_pairs peers ends h o r number there = record {
    numbered = h;
    pairs = subst (λ (found : Option ℕ). MatchOption found
        ((one : P × P) × (is_pair_of cmp o r one ≡ true)
        × (listed_pairs peers ends ≡ listed_pairs peers ends ++ one ∷ []))
        (λ number. listed_pairs peers ends ≡ listed_pairs peers ends))
        (sym there) refl;
  }

  pub with_ends : (peers : List P) (ends new : List Ends) → ArePairsNumbered cmp peers ends → (o r : P) (e : Ends)
      → number_of cmp peers o ≡ Some e.origin → number_of cmp peers r ≡ Some e.recipient → IsWithEnds ends e new
      → IsMorePairs peers ends o r new
  with_ends peers ends new h o r e origin recipient with = by (number_of_ends ends e) refl with
    where
      by : (found : Option ℕ) → number_of_ends ends e ≡ found
          → MatchOption found (new ≡ ends ++ e ∷ []) (λ number. new ≡ ends) → IsMorePairs peers ends o r new
      by None is w = subst (IsMorePairs peers ends o r) (sym w) (more_pairs peers ends h o r e origin recipient is)
      by (Some number) is w =
          subst (IsMorePairs peers ends o r) (sym w)
          (same_pairs peers ends h o r number (number_by_ends cmp total peers ends h o r e origin recipient ∙ is))

  -- and where memory is refused none has come
  pub numbered_after : (peers : List P) (ends new : List Ends) → ArePairsNumbered cmp peers ends → (o r : P) (e : Ends)
      → number_of cmp peers o ≡ Some e.origin → number_of cmp peers r ≡ Some e.recipient
      → {T E : Type 0} → (result : Result T E) → OnOk result (IsWithEnds ends e new)
      → OnErr result (new ≡ ends) → ArePairsNumbered cmp peers new
  numbered_after peers ends new h o r e origin recipient (Ok t) with kept =
      (with_ends peers ends new h o r e origin recipient with).numbered
  numbered_after peers ends new h o r e origin recipient (Err t) with kept =
      subst (ArePairsNumbered cmp peers) (sym kept) h
