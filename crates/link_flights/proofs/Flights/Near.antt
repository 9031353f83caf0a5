-- Those in flight of which a component has an end, and where they stand.
use Rattle.link_flights.proofs.Common.{◌≡◌, ℕ, ◌<◌, Bool, true, false, List, length, get_or, slice_get, Some}
use Rattle.link_flights.proofs.Common.{if◌then◌else◌, refl, sym, ap, ◌∙◌, arith, Ordering, slice_get_within, Component}
use Rattle.link_flights.proofs.Common.{Flight, touches, those_near, places_of, AreNear}
use Rattle.link_flights.specs.Flights.Components.{place_of}
use Rattle.link_flights.proofs.Flights.ComponentFlows.{touched}
use Rattle.link_flights.proofs.Flights.Places.{places_length, stands_there, all_places, all_pass_filter, one_there}

module _ {P : Type 0} (cmp : P → P → Ordering) (component : Component P) (list : List (Flight P)) where
  abbrev is_near : Flight P → Bool
  is_near f = touches cmp component f.message.value

  abbrev near : List (Flight P)
  near = those_near cmp component list

  -- how many there are
  pub count_whole : component.whole ≡ true → length list ≡ length near
  count_whole whole =
      sym (ap length (all_pass_filter is_near (λ f. touched cmp component whole f.message.value) list))

  pub count_part : AreNear cmp component component.near.items list → length component.near.items ≡ length near
  count_part are = ap length are ∙ places_length is_near 0 list

  module _ (are : AreNear cmp component component.near.items list) where
    pub part_there : (k : ℕ) (x : Flight P) → slice_get near k ≡ Some x
        → slice_get list (get_or component.near.items k 0) ≡ Some x
    part_there k x is =
        let s = stands_there is_near 0 list k x is in
        ap (slice_get list) (ap (λ l. get_or l k 0) are ∙ s.place ∙ omega arith) ∙ s.there

    pub part_within : (k : ℕ) → k < length component.near.items → get_or component.near.items k 0 < length list
    part_within k lt =
        let x = one_there near k (omega (arith, lt, count_part are)) in
        slice_get_within list (get_or component.near.items k 0) x.0 (part_there k x.0 x.1)

  module _ (are : component.whole ≡ false → AreNear cmp component component.near.items list) where
    -- where the one of a number stands
    pub place_is : (k : ℕ) → k < length near → place_of component k ≡ get_or (places_of is_near 0 list) k 0
    place_is k lt = by_kind component.whole refl
      where
        by_kind : (b : Bool) → component.whole ≡ b → place_of component k ≡ get_or (places_of is_near 0 list) k 0
        by_kind true whole =
            ap (λ (b : Bool). if b then k else get_or component.near.items k 0) whole
            ∙ sym (all_places is_near (λ f. touched cmp component whole f.message.value) 0 list k
            (omega (arith, lt, count_whole whole)) ∙ omega arith)
        by_kind false part =
            ap (λ (b : Bool). if b then k else get_or component.near.items k 0) part
            ∙ ap (λ l. get_or l k 0) (are part)
