-- What an event touches, found one message in flight after another.
use Rattle.link_flights.proofs.Common.{◌≡◌, ℕ, zero, suc, ◌+◌, ◌-◌, ◌<◌, ◌≤◌, Bool, true, false, not, ◌&&◌, ◌||◌, inl}
use Rattle.link_flights.proofs.Common.{inr, ◌⊎◌, List, [], ◌∷◌, ◌++◌, length, take, get_or, All, Contains, None, Some}
use Rattle.link_flights.proofs.Common.{refl, sym, ap, ◌∙◌, subst, arith, if◌then◌else◌, IsTotalOrder, filter, list_all}
use Rattle.link_flights.proofs.Common.{list_any, Ordering, Arc, Global, cases_lt, false≢true, and_from, eq_by_cmp_equiv}
use Rattle.link_flights.proofs.Common.{take_all, All-contains, All-weaker, list_all-map, none-some, same_Some}
use Rattle.link_flights.proofs.Common.{get_or_from_slice_get, same_peer, by_bool, first_of_both}
use Rattle.link_flights.proofs.Common.{second_of_both, In, get_in, in_from_contains, contains_from_in, all_passed}
use Rattle.link_flights.proofs.Common.{Component, Flight, UnitFlight, flight_at, flights_at, HaveRates, keeps, has_both}
use Rattle.link_flights.proofs.Common.{touches, suits, is_closed, AreSuited, AreTouched, those_near, Ascends, share}
use Rattle.link_flights.proofs.Common.{length-append, End, Origin, Recipient, is_sender, is_receiver, AreAllListed, PassesNowhere}
use Rattle.link_flights.proofs.Common.{PassesFirstAt, IsNextPlace, list_any_at, IsTouched, near_of, AreNear, SharesAt}
use Rattle.link_flights.proofs.Common.{SharesEndAt, AreListedAt, StartsWith, AreStillListed, AreListed, AllNewTouch}
use Rattle.link_flights.specs.Flights.Components.{HasListedEnd}
use Rattle.link_flights.proofs.Common.{Both, Ends, Joined, Receiver, Sender, has_end, have_end, joins}
use Rattle.std.specs.Prelude.{slice_get, Option, IfSome, nat_le}
use Rattle.std.specs.declared.vec.Vec.{Vec}
use Rattle.std.proofs.lemmas.Bool.{or_cases}
use Rattle.link_flights.proofs.Flights.InFlight.{filter_yes, filter_no}
use Rattle.link_flights.proofs.Flights.Places.{one_there, or_first, or_second}
use Rattle.std.proofs.lemmas.List.{append_assoc, take-append-le}
use Rattle.std.proofs.lemmas.List.Elements.{All-more, Contains-append_right}
use Rattle.std.proofs.lemmas.List.Elements.{All-contains_itself}
use Rattle.std.proofs.lemmas.List.Folds.{list_any-append, Any-from_list_any}
use Rattle.link_flights.proofs.Flights.Listed.{places_are}
use Rattle.link_pairs.specs.declared.message.Message.{Message}
use Rattle.link_flights.specs.Flights.Components.{IsSuited}
use Rattle.link_flights.specs.Flights.Components.{IsWalked}
use Rattle.link_flights.specs.Flights.Components.{share_an_end}

-- ---- places

module _ {X : Type 0} where
  -- what stands at a place is what is read there
  pub same_there : (xs : List X) (at : ℕ) (x y : X) → x ≡ get_or xs at x → slice_get xs at ≡ Some y → x ≡ y
  same_there xs at x y is there = is ∙ get_or_from_slice_get xs at y x there

  -- what holds of each before a place, and there
  pub each_more : (Q : ℕ → X → Type 0) (xs : List X) (at : ℕ)
      → ((i : ℕ) (x : X) → i < at → slice_get xs i ≡ Some x → Q i x) → ((x : X) → slice_get xs at ≡ Some x → Q at x)
      → (i : ℕ) (x : X) → i < at + 1 → slice_get xs i ≡ Some x → Q i x
  each_more Q xs at before here i x below there = elim (cases_lt i at) [
    | inl less ↦ before i x less there
    | inr past ↦
        let last : at ≡ i = omega (arith, below, past) in
        subst (λ k. Q k x) last (here x (ap (slice_get xs) last ∙ there))
  ]

  -- what all of the first ones pass, one of them passes
  pub passed_there : (test : X → Bool) (n : ℕ) (xs : List X) (at : ℕ) (x : X) → list_all test (take n xs) ≡ true
      → at < n → slice_get xs at ≡ Some x → test x ≡ true
  passed_there test zero xs at x all below there = absurd (omega (arith, below))
  passed_there test (suc n) [] at x all below there = absurd (none-some x there)
  passed_there test (suc n) (y ∷ xs) zero x all below there =
      subst (λ z. test z ≡ true) (same_Some y x there) (first_of_both _ _ all)
  passed_there test (suc n) (y ∷ xs) (suc at) x all below there =
      passed_there test n xs at x (second_of_both _ _ all) (omega (arith, below)) there

  -- a list that goes on as one that goes on
  pub starts_on : (xs ys zs : List X) → StartsWith xs ys → StartsWith ys zs → StartsWith xs zs
  starts_on xs ys zs (more, e) (further, f) =
      (more ++ further, f ∙ ap (λ l. l ++ further) e ∙ append_assoc xs more further)

  -- and is no shorter
  pub starts_longer : (xs ys : List X) → StartsWith xs ys → length xs ≤ length ys
  starts_longer xs ys (more, e) =
      let is : length ys ≡ length xs + length more = ap length e ∙ length-append xs more in
      omega (arith, is)

either : (a b : Bool) → b ≡ true → (a || b) ≡ true
either true b h = refl
either false b h = h

pub one_is_listed : (before : List ℕ) (at : ℕ) → Contains (before ++ at ∷ []) at
one_is_listed before at = Contains-append_right before (at ∷ []) at (0, omega arith, refl)

any_more : {X : Type 0} (test : X → Bool) (xs ys : List X) → StartsWith xs ys → list_any test xs ≡ true
    → list_any test ys ≡ true
any_more test xs ys (more, is) any =
    ap (list_any test) is ∙ list_any-append test xs more ∙ or_first (list_any test xs) (list_any test more) any

-- how many stand at a place and behind it
abbrev pub behind : {X : Type 0} → List X → Option ℕ → ℕ
behind xs None = 0
behind xs (Some at) = length xs - at

-- what comes next stands in the list
pub next_is_inside : {X : Type 0} (test : X → Bool) (xs : List X) (from : ℕ) (next : Option ℕ)
    → IsNextPlace test xs from next → IfSome next (λ at. at < length xs)
next_is_inside test xs from None is = tt
next_is_inside test xs from (Some at) is = is.high

-- and fewer stand there and behind it
pub fewer_ahead : {X : Type 0} (test : X → Bool) (xs : List X) (at : ℕ) (next following : Option ℕ) → next ≡ Some at
    → at < length xs → IsNextPlace test xs (at + 1) following → behind xs following < behind xs next
fewer_ahead test xs at next None is within ahead = omega (arith, within, ap (behind xs) is)
fewer_ahead test xs at next (Some to) is within ahead =
    omega (arith, within, ap (behind xs) is, ahead.low, ahead.high)

module _ {P : Type 0} (cmp : P → P → Ordering) where
  -- ---- an end of each of those that have come

  -- it has an end of each from a place up to another
  abbrev pub AllTouchFrom : Component P → ℕ → ℕ → List (Flight P) → Type 0
  AllTouchFrom component n end list = (at : ℕ) (one : Flight P) → at < end
      → slice_get list at ≡ Some one → n ≤ at → touches cmp component one.message.value ≡ true

  -- ---- places that are listed

  -- those before a place that share that end with the message are listed, and no others but what was listed before
  pub record HasListed (end : End) (m : Message P) (list : List (Flight P)) (at : ℕ) (before near : List ℕ)
      : Type 0 where
    pub listed : (i : ℕ) (one : Flight P) → i < at → slice_get list i ≡ Some one
        → share cmp end m one.message.value ≡ true → Contains near i
    pub more : AreStillListed before near
    pub only : All (λ p. Contains before p ⊎ SharesEndAt cmp end m list p) near

  -- nothing is yet
  pub none_listed : (end : End) (m : Message P) (list : List (Flight P)) (before : List ℕ)
      → HasListed end m list 0 before before
  none_listed end m list before = record {
    listed = λ i one below. absurd (omega (arith, below));
    more = λ i is. is;
    only = All-weaker (Contains before) (λ p. Contains before p ⊎ SharesEndAt cmp end m list p) (λ p is. inl is) before
        (All-contains_itself before);
  }

  module _ (end : End) (m : Message P) (list : List (Flight P)) (from : ℕ) (before near : List ℕ)
      (so_far : HasListed end m list from before near) where
    apart_there : (to : ℕ) → PassesNowhere (λ one. share cmp end m one.message.value) list from to
        → (i : ℕ) (one : Flight P) → from ≤ i → i < to → slice_get list i ≡ Some one
        → share cmp end m one.message.value ≡ false
    apart_there to apart i one low high there =
        subst (λ (y : Flight P). share cmp end m y.message.value ≡ false)
        (get_or_from_slice_get list i one one there) (apart i low high one)

    shares_there : (at : ℕ) → PassesFirstAt (λ one. share cmp end m one.message.value) list from at
        → SharesEndAt cmp end m list at
    shares_there at next =
        let there = one_there list at next.high in (
          there.0,
          there.1,
          sym (ap (λ (y : Flight P). share cmp end m y.message.value)
              (get_or_from_slice_get list at there.0 there.0 there.1)) ∙ next.here there.0,
        )

    -- one more is listed, the next that shares that end
    pub listed_more : (at : ℕ) (next : List ℕ)
        → PassesFirstAt (λ one. share cmp end m one.message.value) list from at
        → Contains next at → AreStillListed near next → All (λ p. Contains near p ⊎ (p ≡ at)) next
        → HasListed end m list (at + 1) before next
    listed_more at next first here still only = record {
      listed = each_more (λ i (one : Flight P).
          share cmp end m one.message.value ≡ true → Contains next i) list at
          (λ i one below there shares. elim (cases_lt i from) [
            | inl less ↦ still i (so_far.listed i one less there shares)
            | inr past ↦ absurd (false≢true (sym (apart_there at first.before i one past below there) ∙ shares))
          ])
          (λ one there shares. here);
      more = λ i is. still i (so_far.more i is);
      only = All-weaker (λ p. Contains near p ⊎ (p ≡ at)) (λ p. Contains before p ⊎ SharesEndAt cmp end m list p)
          (λ p listed. elim listed [
            | inl is ↦ All-contains (λ p. Contains before p ⊎ SharesEndAt cmp end m list p) near p so_far.only is
            | inr is ↦ inr (subst (SharesEndAt cmp end m list) (sym is) (shares_there at first))
          ])
          next only;
    }

  -- the same before some place, and the first from that place on that shares that end is known
  pub record HasWalked (end : End) (m : Message P) (list : List (Flight P)) (next : Option ℕ)
      (before near : List ℕ) : Type 0 where
    pub from : ℕ
    pub is_next : IsNextPlace (λ one. share cmp end m one.message.value) list from next
    pub so_far : HasListed end m list from before near

  share_alike : IsTotalOrder cmp → (end : End) (m n other : Message P) → share cmp end m n ≡ true
      → share cmp end m other ≡ share cmp end n other
  share_alike order Origin m n other same = (eq_by_cmp_equiv order).congr m.origin n.origin other.origin same
  share_alike order Recipient m n other same =
      (eq_by_cmp_equiv order).congr m.recipient n.recipient other.recipient same

  -- those that share an end with one which shares it with the message share it with the message
  pub next_shared : IsTotalOrder cmp → (end : End) (m : Message P) (list : List (Flight P)) (from : ℕ)
      (next : Option ℕ) (n : Message P) → share cmp end m n ≡ true
      → IsNextPlace (λ other. share cmp end n other.message.value) list from next
      → IsNextPlace (λ other. share cmp end m other.message.value) list from next
  next_shared order end m list from next n same =
      subst (λ test. IsNextPlace test list from next)
      (λ i (other : Flight P). sym (share_alike order end m n other.message.value same) i)

  module _ (end : End) (m : Message P) (list : List (Flight P)) (next : Option ℕ)
      (before near : List ℕ) (walked : HasWalked end m list next before near) where
    abbrev is_shared : Flight P → Bool
    is_shared one = share cmp end m one.message.value

    first_there : (at : ℕ) → next ≡ Some at → PassesFirstAt is_shared list walked.from at
    first_there at is = subst (IsNextPlace is_shared list walked.from) is walked.is_next

    -- the one there is listed, and the next one is known
    pub walked_more : IsTotalOrder cmp → (at : ℕ) → next ≡ Some at → (following : Option ℕ)
        → ((d : Flight P) → IsNextPlace
        (λ other. share cmp end (get_or list at d).message.value other.message.value) list (at + 1) following)
        → (after : List ℕ) → Contains after at → AreStillListed near after
        → All (λ p. Contains near p ⊎ (p ≡ at)) after → HasWalked end m list following before after
    walked_more order at is following further after here still only =
        let there = first_there at is in
        let one = (one_there list at there.high).0 in
        record {
          from = at + 1;
          is_next = next_shared order end m list (at + 1) following (get_or list at one).message.value
              (there.here one) (further one);
          so_far = listed_more end m list walked.from before near walked.so_far at after there here still only;
        }

    -- fewer stand behind the next one
    pub fewer_behind : (at : ℕ) → next ≡ Some at → (following : Option ℕ)
        → ((d : Flight P) → IsNextPlace
        (λ other. share cmp end (get_or list at d).message.value other.message.value) list (at + 1) following)
        → behind list following < behind list next
    fewer_behind at is following further =
        let d = (one_there list at (first_there at is).high).0 in
        fewer_ahead (λ (other : Flight P). share cmp end (get_or list at d).message.value other.message.value) list at
        next following is (first_there at is).high (further d)

    pub next_inside : (at : ℕ) → next ≡ Some at → at < length list
    next_inside at is = (first_there at is).high

  -- each of which one that has joined brings in an end is listed, once those are that share the one end with it by which
  -- it joins others, and those that share the other
  pub record HasListedBoth (j : Joined P) (list : List (Flight P)) (before near : List ℕ) : Type 0 where
    pub listed : AreListed cmp j near list
    pub more : AreStillListed before near
    pub only : All (λ p. Contains before p ⊎ SharesAt cmp j list p) near

  -- what it brings in shares an end with it by which it joins others
  shares_open_end : IsTotalOrder cmp → (j : Joined P) (m : Message P) → share_an_end cmp j m ≡ true
      → ((have_end j.ends Origin ≡ true) × (share cmp Origin j.message.value m ≡ true))
      ⊎ ((have_end j.ends Recipient ≡ true) × (share cmp Recipient j.message.value m ≡ true))
  shares_open_end order j m shares =
      let laws = eq_by_cmp_equiv order in
      let n = j.message.value in
      by_ends j.ends refl
      (elim (or_cases (joins cmp j Origin m.origin m.recipient) (joins cmp j Recipient m.origin m.recipient) shares) [
        | inl sends ↦ inl (
          laws.symm n.origin m.origin ∙ first_of_both (same_peer cmp m.origin n.origin) _ sends,
          either_end (have_end j.ends Origin) (same_peer cmp m.recipient n.recipient)
              (second_of_both (same_peer cmp m.origin n.origin) _ sends),
        )
        | inr receives ↦ inr (
          laws.symm n.recipient m.recipient ∙ first_of_both (same_peer cmp m.recipient n.recipient) _ receives,
          either_end (have_end j.ends Recipient) (same_peer cmp m.origin n.origin)
              (second_of_both (same_peer cmp m.recipient n.recipient) _ receives),
        )
      ])
    where
      either_end : (h b : Bool) → (h || b) ≡ true → (h ≡ true) ⊎ (b ≡ true)
      either_end h b is = or_cases h b is

      by_ends : (ends : Ends) → j.ends ≡ ends
          → ((share cmp Origin j.message.value m ≡ true)
          × ((have_end j.ends Origin ≡ true) ⊎ (same_peer cmp m.recipient j.message.value.recipient ≡ true)))
          ⊎ ((share cmp Recipient j.message.value m ≡ true)
          × ((have_end j.ends Recipient ≡ true) ⊎ (same_peer cmp m.origin j.message.value.origin ≡ true)))
          → ((have_end j.ends Origin ≡ true) × (share cmp Origin j.message.value m ≡ true))
          ⊎ ((have_end j.ends Recipient ≡ true) × (share cmp Recipient j.message.value m ≡ true))
      by_ends Both is (inl (sends, _)) = inl (ap (λ e. have_end e Origin) is, sends)
      by_ends Both is (inr (receives, _)) = inr (ap (λ e. have_end e Recipient) is, receives)
      by_ends Sender is (inl (sends, _)) = inl (ap (λ e. have_end e Origin) is, sends)
      by_ends Sender is (inr (receives, inl via)) =
          absurd (false≢true (sym (ap (λ e. have_end e Recipient) is) ∙ via))
      by_ends Sender is (inr (receives, inr same)) = inl (
        ap (λ e. have_end e Origin) is,
        (eq_by_cmp_equiv order).symm j.message.value.origin m.origin ∙ same,
      )
      by_ends Receiver is (inl (sends, inl via)) =
          absurd (false≢true (sym (ap (λ e. have_end e Origin) is) ∙ via))
      by_ends Receiver is (inl (sends, inr same)) = inr (
        ap (λ e. have_end e Recipient) is,
        (eq_by_cmp_equiv order).symm j.message.value.recipient m.recipient ∙ same,
      )
      by_ends Receiver is (inr (receives, _)) = inr (ap (λ e. have_end e Recipient) is, receives)

  -- what shares an end with it by which it joins others, it brings in
  open_end_shared : IsTotalOrder cmp → (end : End) (j : Joined P) (m : Message P) → have_end j.ends end ≡ true
      → share cmp end j.message.value m ≡ true → share_an_end cmp j m ≡ true
  open_end_shared order Origin j m via shares =
      or_first _ _ (and_from _ _ ((eq_by_cmp_equiv order).symm m.origin j.message.value.origin ∙ shares)
      (or_first _ _ via))
  open_end_shared order Recipient j m via shares =
      or_second _ _ (and_from _ _ ((eq_by_cmp_equiv order).symm m.recipient j.message.value.recipient ∙ shares)
      (or_first _ _ via))

  pub both_listed : IsTotalOrder cmp → (j : Joined P) (list : List (Flight P)) (before mid near : List ℕ)
      → HasListedEnd cmp Origin j.ends j.message.value list before mid
      → HasListedEnd cmp Recipient j.ends j.message.value list mid near
      → HasListedBoth j list before near
  both_listed order j list before mid near sent received = record {
    listed = λ at one there shares. elim (shares_open_end order j one.message.value shares) [
      | inl (via, same) ↦ received.more at (sent.listed via at one there same)
      | inr (via, same) ↦ received.listed via at one there same
    ];
    more = λ at is. received.more at (sent.more at is);
    only = All-weaker
        (λ p. Contains mid p ⊎ ((have_end j.ends Recipient ≡ true) × SharesEndAt cmp Recipient j.message.value list p))
        (λ p. Contains before p ⊎ SharesAt cmp j list p)
        (λ p is. elim is [
          | inl was ↦ elim (All-contains
              (λ p. Contains before p
              ⊎ ((have_end j.ends Origin ≡ true) × SharesEndAt cmp Origin j.message.value list p)) mid p sent.only was) [
                | inl first ↦ inl first
                | inr (via, shares) ↦ inr (
                  shares.0,
                  shares.1,
                  open_end_shared order Origin j shares.0.message.value via shares.2,
                )
              ]
          | inr (via, shares) ↦ inr (
            shares.0,
            shares.1,
            open_end_shared order Recipient j shares.0.message.value via shares.2,
          )
        ])
        near received.only;
  }

  -- ---- an end of each of those that are listed

  -- who sends or receives still does, where more have joined
  still_any : (old new : Component P) → StartsWith old.joined.items new.joined.items → new.whole ≡ old.whole
      → (test : Joined P → Bool) → (old.whole || list_any test old.joined.items) ≡ true
      → (new.whole || list_any test new.joined.items) ≡ true
  still_any old new starts whole test is = elim (or_cases old.whole (list_any test old.joined.items) is) [
    | inl all ↦ or_first new.whole (list_any test new.joined.items) (whole ∙ all)
    | inr any ↦ or_second new.whole (list_any test new.joined.items)
        (any_more test old.joined.items new.joined.items starts any)
  ]

  still_touches : (old new : Component P) → StartsWith old.joined.items new.joined.items → new.whole ≡ old.whole
      → (m : Message P) → touches cmp old m ≡ true → touches cmp new m ≡ true
  still_touches old new starts whole m touched =
      elim (or_cases (is_sender cmp old m.origin m.recipient) (is_receiver cmp old m.origin m.recipient) touched) [
        | inl sends ↦ or_first (is_sender cmp new m.origin m.recipient) (is_receiver cmp new m.origin m.recipient)
            (still_any old new starts whole (λ j. joins cmp j Origin m.origin m.recipient) sends)
        | inr receives ↦ or_second (is_sender cmp new m.origin m.recipient) (is_receiver cmp new m.origin m.recipient)
            (still_any old new starts whole (λ j. joins cmp j Recipient m.origin m.recipient) receives)
      ]

  -- what was touched still is
  pub still_touched : (old new : Component P) → StartsWith old.joined.items new.joined.items → new.whole ≡ old.whole
      → (list : List (Flight P)) (near : List ℕ) → AreTouched cmp old near list
      → AreTouched cmp new near list
  still_touched old new starts whole list near =
      All-weaker (IsTouched cmp old list) (IsTouched cmp new list)
      (λ p touched. (touched.0, touched.1, still_touches old new starts whole touched.0.message.value touched.2))
      near

  -- it has an end of what one that has joined brings in an end of
  shares_touches : (component : Component P) (n : ℕ) (j : Joined P) → n < length component.joined.items
      → j ≡ get_or component.joined.items n j → (other : Message P) → share_an_end cmp j other ≡ true
      → touches cmp component other ≡ true
  shares_touches component n j inside is other shares =
      let js = component.joined.items in
      let found : (end : End) → joins cmp j end other.origin other.recipient ≡ true
      → has_end cmp component end other.origin other.recipient ≡ true = λ end passes.
      or_second component.whole (list_any (λ k. joins cmp k end other.origin other.recipient) js)
      (list_any_at (λ k. joins cmp k end other.origin other.recipient) js n j inside
      (sym (ap (λ k. joins cmp k end other.origin other.recipient) is) ∙ passes)) in
      elim (or_cases (joins cmp j Origin other.origin other.recipient)
      (joins cmp j Recipient other.origin other.recipient) shares) [
        | inl sends ↦ or_first _ _ (found Origin sends)
        | inr receives ↦ or_second _ _ (found Recipient receives)
      ]

  -- those listed are touched, where no others came but such that share an end with one that has joined
  pub touched_with : (old new : Component P) → StartsWith old.joined.items new.joined.items
      → new.whole ≡ old.whole → (list : List (Flight P)) (n : ℕ) (j : Joined P)
      → n < length old.joined.items → j ≡ get_or old.joined.items n j → (before after : List ℕ)
      → All (λ p. Contains before p ⊎ SharesAt cmp j list p) after → AreTouched cmp old before list
      → AreTouched cmp new after list
  touched_with old new starts whole list n j inside is before after only touched =
      still_touched old new starts whole list after
      (All-weaker (λ p. Contains before p ⊎ SharesAt cmp j list p) (IsTouched cmp old list)
      (λ p listed. elim listed [
        | inl was ↦ All-contains (IsTouched cmp old list) before p touched was
        | inr shares ↦ (
          shares.0,
          shares.1,
          shares_touches old n j inside is shares.0.message.value shares.2,
        )
      ])
      after only)

  -- ---- both ends of those that keep no rate

  module _ (old new : Component P) (starts : StartsWith old.joined.items new.joined.items)
      (whole : new.whole ≡ old.whole) where
    still_has_both : (m : Message P) → has_both cmp old m ≡ true → has_both cmp new m ≡ true
    still_has_both m has =
        and_from _ _
        (still_any old new starts whole (λ j. joins cmp j Origin m.origin m.recipient) (first_of_both _ _ has))
        (still_any old new starts whole (λ j. joins cmp j Recipient m.origin m.recipient)
        (second_of_both (is_sender cmp old m.origin m.recipient) (is_receiver cmp old m.origin m.recipient) has))

    -- it still has both ends of each of these
    pub still_has_all : (ms : List (Arc (Message P) Global)) → All (λ m. has_both cmp old m.value ≡ true) ms
        → All (λ m. has_both cmp new m.value ≡ true) ms
    still_has_all ms =
        All-weaker (λ m. has_both cmp old m.value ≡ true) (λ m. has_both cmp new m.value ≡ true)
        (λ m has. still_has_both m.value has) ms

    -- and so of messages that are no longer shared
    pub still_has_messages : (ms : List (Message P)) → All (λ m. has_both cmp old m ≡ true) ms
        → All (λ m. has_both cmp new m ≡ true) ms
    still_has_messages ms =
        All-weaker (λ m. has_both cmp old m ≡ true) (λ m. has_both cmp new m ≡ true) still_has_both ms

    -- and of one more
    pub has_one_more : (ms : List (Arc (Message P) Global)) (n : ℕ) (m : Arc (Message P) Global) → n < length ms
        → m ≡ get_or ms n m → All (λ m. has_both cmp old m.value ≡ true) (take n ms) → has_both cmp new m.value ≡ true
        → All (λ m. has_both cmp new m.value ≡ true) (take (n + 1) ms)
    has_one_more ms n m inside is all has =
        All-more (λ m. has_both cmp new m.value ≡ true) ms n m inside (still_has_all (take n ms) all)
        (subst (λ (x : Arc (Message P) Global). has_both cmp new x.value ≡ true) is has)

    -- what it touches from a place on it still does, and one more of which it has both ends
    pub touches_one_more : (n end : ℕ) (list : List (Flight P)) → AllTouchFrom old n end list
        → (read : Flight P) → read ≡ get_or list end read
        → has_both cmp new read.message.value ≡ true → AllTouchFrom new n (end + 1) list
    touches_one_more n end list so_far read is has =
        each_more (λ i (one : Flight P). n ≤ i → touches cmp new one.message.value ≡ true) list end
        (λ i one below there from. still_touches old new starts whole one.message.value
        (so_far i one below there from))
        (λ one there from. subst (λ (x : Flight P). touches cmp new x.message.value ≡ true)
        (same_there list end read one is there)
        (or_first (is_sender cmp new read.message.value.origin read.message.value.recipient)
        (is_receiver cmp new read.message.value.origin read.message.value.recipient) (first_of_both _ _ has)))

    -- what it touched it still does
    pub still_touches_new : (n : ℕ) (list : List (Flight P)) → AllNewTouch cmp old n list
        → AllNewTouch cmp new n list
    still_touches_new n list new_touch at one from there =
        still_touches old new starts whole one.message.value (new_touch at one from there)

    -- what was suited still is, where it has joined more
    pub still_suited : new.level ≡ old.level → (list : List (Flight P)) (near : List ℕ)
        → AreSuited cmp old near list → AreSuited cmp new near list
    still_suited level list near all k d lt one there =
        let u = flight_at 0 one in
        let m : Message P = one.message.value in
        elim (or_cases (keeps old u) (has_both cmp old m) (all k d lt one there)) [
          | inl kept ↦ or_first (keeps new u) (has_both cmp new m)
              (ap (λ n. u.rated && not (nat_le n u.rate)) level ∙ kept)
          | inr both ↦ or_second (keeps new u) (has_both cmp new m) (still_has_both m both)
        ]

  -- where one more is listed of which it has both ends, if that keeps no rate, it still has those of all
  pub suited_with_one : (old new : Component P) → StartsWith old.joined.items new.joined.items
      → new.level ≡ old.level → new.whole ≡ old.whole → (list : List (Flight P)) (at : ℕ)
      (before after : List ℕ) → All (λ p. Contains before p ⊎ (p ≡ at)) after → AreSuited cmp old before list
      → IsSuited cmp new list at → AreSuited cmp new after list
  suited_with_one old new starts level whole list at before after only suited one =
      All-weaker (λ p. Contains before p ⊎ (p ≡ at)) (IsSuited cmp new list)
      (λ p listed. elim listed [
        | inl is ↦ All-contains (IsSuited cmp new list) before p
            (still_suited old new starts whole level list before suited) is
        | inr is ↦ subst (IsSuited cmp new list) (sym is) one
      ])
      after only

  -- those before some place that share that end with the message are listed, and it has both ends of those listed that
  -- keep no rate
  pub record HasJoinedAll (end : End) (m : Message P) (list : List (Flight P)) (next : Option ℕ)
      (old new : Component P) : Type 0 where
    pub walked : HasWalked end m list next old.near.items new.near.items
    pub suited : AreSuited cmp new new.near.items list
    pub joined : StartsWith old.joined.items new.joined.items
    pub level : new.level ≡ old.level
    pub whole : new.whole ≡ old.whole

  -- so many of them were looked through, and no more than may have joined
  pub record HasGrown (list : List (Flight P)) (floor : Option ℕ) (n : ℕ) (old new : Component P)
      : Type 0 where
    pub walked : IsWalked cmp n new list
    pub joined : StartsWith old.joined.items new.joined.items
    pub few : length new.joined.items ≤ 48 + length list
    pub level : IfSome floor (λ floor. new.level ≤ floor)
    pub whole : new.whole ≡ old.whole

  pub still_listed : (list : List (Flight P)) (before after : List ℕ) → AreStillListed before after
      → (js : List (Joined P)) → AreAllListed cmp js before list → AreAllListed cmp js after list
  still_listed list before after still js all k d below at one there shares =
      still at (all k d below at one there shares)

  -- those of so many of the messages are listed, and of one more
  pub all_listed_more : (list : List (Flight P)) (js : List (Joined P)) (n : ℕ)
      (before after : List ℕ) → AreAllListed cmp (take n js) before list → n < length js
      → (j : Joined P) → j ≡ get_or js n j → AreListed cmp j after list
      → AreStillListed before after → AreAllListed cmp (take (n + 1) js) after list
  all_listed_more list js n before after all inside j is listed still =
      All-more (λ j. AreListed cmp j after list) js n j inside
      (still_listed list before after still (take n js) all)
      (subst (λ (x : Joined P). AreListed cmp x after list) is listed)

  -- and where more messages have joined since
  pub all_listed_next : (list : List (Flight P)) (js more : List (Joined P))
      → StartsWith js more → (n : ℕ) (before after : List ℕ) → n < length js → AreAllListed cmp (take n js) before list
      → AreStillListed before after → (j : Joined P) → j ≡ get_or js n j
      → AreListed cmp j after list → AreAllListed cmp (take (n + 1) more) after list
  all_listed_next list js more (rest, e) n before after inside all still j is listed =
      subst (λ (l : List (Joined P)). AreAllListed cmp l after list)
      (sym (ap (take (n + 1)) e ∙ take-append-le (n + 1) js rest (omega (arith, inside))))
      (all_listed_more list js n before after all inside j is listed still)

  -- once each was looked through, all are listed
  pub all_listed : (component : Component P) (list : List (Flight P))
      → IsWalked cmp (length component.joined.items) component list
      → AreAllListed cmp component.joined.items component.near.items list
  all_listed component list walked =
      subst (λ js. AreAllListed cmp js component.near.items list)
      (take_all (length component.joined.items) component.joined.items (omega arith)) walked.listed

  -- what shares that end with a message is listed, once all are of which another that has it, and joins others by it,
  -- brings in an end
  pub listed_before : IsTotalOrder cmp → (end : End) (m : Message P) (list : List (Flight P))
      (js : List (Joined P)) (near : List ℕ) → AreAllListed cmp js near list
      → list_any (λ j. have_end j.ends end && share cmp end m j.message.value) js ≡ true
      → AreListedAt cmp end m near list
  listed_before order end m list js near all any at one there shares =
      let test : Joined P → Bool = λ j. have_end j.ends end && share cmp end m j.message.value in
      let found = Any-from_list_any test js any in
      let other : Message P = one.message.value in
      let j = found.1 in
      let same : share cmp end m j.message.value ≡ true = second_of_both (have_end j.ends end) _ found.4 in
      subst (λ (k : Joined P). share_an_end cmp k other ≡ true → Contains near at) found.3
      (all found.0 found.1 found.2 at one there)
      (open_end_shared order end j other (first_of_both (have_end j.ends end) _ found.4)
      (sym (share_alike order end m j.message.value other same) ∙ shares))

  -- those that were looked through still are listed, where more have joined since
  pub first_listed : (list : List (Flight P)) (js more : List (Joined P)) → StartsWith js more
      → (n : ℕ) (before after : List ℕ) → n ≤ length js → AreAllListed cmp (take n js) before list
      → AreStillListed before after → AreAllListed cmp (take n more) after list
  first_listed list js more (rest, e) n before after inside all still =
      subst (λ (l : List (Joined P)). AreAllListed cmp l after list)
      (sym (ap (take n) e ∙ take-append-le n js rest inside))
      (still_listed list before after still (take n js) all)

  -- what was looked through still is, where the same places are listed in another order
  pub walked_in_order : (n : ℕ) (component : Component P) (near : Vec ℕ Global) (list : List (Flight P))
      → AreStillListed component.near.items near.items → AreStillListed near.items component.near.items
      → IsWalked cmp n component list → IsWalked cmp n (record component { near = near }) list
  walked_in_order n component near list still only walked =
      let each : (Q : ℕ → Type 0) → All Q component.near.items → All Q near.items = λ Q all.
      All-weaker (Contains near.items) Q (λ p is. All-contains Q component.near.items p all (only p is)) near.items
      (All-contains_itself near.items) in
      record {
        listed = still_listed list component.near.items near.items still (take n component.joined.items) walked.listed;
        touched = each (IsTouched cmp component list) walked.touched;
        suited = each (IsSuited cmp component list) walked.suited;
      }

  -- one of which the component has an end is listed
  module _ (list : List (Flight P)) (near : List ℕ) (at : ℕ) (one : Flight P)
      (there : slice_get list at ≡ Some one) where
    by_one : (end : End) (js : List (Joined P)) → AreAllListed cmp js near list
        → list_any (λ j. joins cmp j end one.message.value.origin one.message.value.recipient) js ≡ true
        → Contains near at
    by_one end js all any =
        let m : Message P = one.message.value in
        let found = Any-from_list_any (λ j. joins cmp j end m.origin m.recipient) js any in
        subst (λ (j : Joined P). share_an_end cmp j m ≡ true → Contains near at)
        found.3 (all found.0 found.1 found.2 at one there) (by_end end found.1 found.4)
      where
        by_end : (end : End) (j : Joined P)
            → joins cmp j end one.message.value.origin one.message.value.recipient ≡ true
            → share_an_end cmp j one.message.value ≡ true
        by_end Origin j is = or_first _ _ is
        by_end Recipient j is = or_second _ _ is

    pub touched_listed : (component : Component P) → component.whole ≡ false
        → AreAllListed cmp component.joined.items near list
        → touches cmp component one.message.value ≡ true → Contains near at
    touched_listed component part all touched =
        let m : Message P = one.message.value in
        let test : End → Joined P → Bool = λ end j. joins cmp j end m.origin m.recipient in
        elim (or_cases (is_sender cmp component m.origin m.recipient) (is_receiver cmp component m.origin m.recipient)
        touched) [
          | inl sends ↦ by_one Origin component.joined.items all
              (sym (ap (λ b. b || list_any (test Origin) component.joined.items) part) ∙ sends)
          | inr receives ↦ by_one Recipient component.joined.items all
              (sym (ap (λ b. b || list_any (test Recipient) component.joined.items) part) ∙ receives)
        ]

  -- so those listed in order are near, if all are listed
  pub near_if_listed : (component : Component P) → component.whole ≡ false
      → (list : List (Flight P)) → AreAllListed cmp component.joined.items component.near.items list
      → Ascends 0 component.near.items → AreTouched cmp component component.near.items list
      → AreNear cmp component component.near.items list
  near_if_listed component part list listed ascends touched =
      let near = component.near.items in
      places_are (λ f. touches cmp component f.message.value) 0 list near ascends
      (λ p among.
      let one = All-contains (IsTouched cmp component list) near p touched (contains_from_in near p among) in
      record { at = p; one = one.0; place = omega arith; there = one.1; passes = one.2 })
      (λ k one there touches. subst (In near) (omega arith)
      (in_from_contains near k (touched_listed list near k one there component part listed touches)))

  -- ---- those that are near

  module _ (component : Component P) where
    abbrev is_touched : UnitFlight P → Bool
    is_touched u = touches cmp component u.message

    abbrev is_near : Flight P → Bool
    is_near f = touches cmp component f.message.value

    pub near_read : (now : ℕ) (list : List (Flight P))
        → flights_at now (those_near cmp component list) ≡ near_of cmp component (flights_at now list)
    near_read now [] = refl
    near_read now (f ∷ list) = by_test (is_near f) refl (near_read now list)
      where
        by_test : (b : Bool) → is_near f ≡ b
            → flights_at now (filter is_near list) ≡ filter is_touched (flights_at now list)
            → flights_at now (filter is_near (f ∷ list)) ≡ filter is_touched (flights_at now (f ∷ list))
        by_test true here ih =
            ap (flights_at now) (filter_yes is_near f list here) ∙ ap (λ us. flight_at now f ∷ us) ih
            ∙ sym (filter_yes is_touched (flight_at now f) (flights_at now list) here)
        by_test false far ih =
            ap (flights_at now) (filter_no is_near f list far) ∙ ih
            ∙ sym (filter_no is_touched (flight_at now f) (flights_at now list) far)

    -- ---- the test

    -- it has both ends of one that keeps no rate
    abbrev is_suited : UnitFlight P → Bool
    is_suited u = keeps component u || has_both cmp component u.message

    suits_touched : (u : UnitFlight P) → is_touched u ≡ true → is_suited u ≡ true → suits cmp component u ≡ true
    suits_touched u here suited =
        ap (λ b. keeps component u || (if b then has_both cmp component u.message else u.rated)) here ∙ suited

    suits_far : (u : UnitFlight P) → is_touched u ≡ false → u.rated ≡ true → suits cmp component u ≡ true
    suits_far u here rated =
        ap (λ b. keeps component u || (if b then has_both cmp component u.message else u.rated)) here
        ∙ either (keeps component u) u.rated rated

    -- it is closed, where it has what is done and suits those listed, and has an end of each that has no rate
    pub closed_if_near : component.whole ≡ false → (near : List ℕ)
        (done : List (Arc (Message P) Global)) (now settled : ℕ) (list : List (Flight P))
        → All (λ m. has_both cmp component m.value ≡ true) done → HaveRates settled list
        → AllNewTouch cmp component settled list
        → AreAllListed cmp component.joined.items near list → AreSuited cmp component near list
        → is_closed cmp component done (flights_at now list) ≡ true
    closed_if_near part near done now settled list has have new listed suited =
        and_from _ _
        (all_passed (λ m. has_both cmp component m.value) done
        (λ m among. All-contains (λ m. has_both cmp component m.value ≡ true) done m has (contains_from_in done m among)))
        (list_all-map (suits cmp component) (λ f. flight_at now f) list
        ∙ all_passed (λ f. suits cmp component (flight_at now f)) list each)
      where
        rated_there : (at : ℕ) (f : Flight P) → slice_get list at ≡ Some f
            → touches cmp component f.message.value ≡ false → f.rated ≡ true
        rated_there at f there far = elim (cases_lt at settled) [
          | inl below ↦ passed_there (λ (f : Flight P). f.rated) settled list at f have.1 below there
          | inr from ↦ absurd (false≢true (sym far ∙ new at f from there))
        ]

        each : (f : Flight P) → In list f → suits cmp component (flight_at now f) ≡ true
        each f among =
            let there = get_in list f among in
            by_bool (touches cmp component f.message.value)
            (λ here. suits_touched (flight_at now f) here
            (All-contains (IsSuited cmp component list) near there.0 suited
            (touched_listed list near there.0 f there.1 component part listed here) f there.1))
            (λ far. suits_far (flight_at now f) far (rated_there there.0 f there.1 far))
