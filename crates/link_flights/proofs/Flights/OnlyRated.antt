-- Where only one is rated anew, the least of what the others leave of its caps is its fair rate; and where none is, all
-- go on.
use Rattle.link_flights.proofs.Common.{◌≡◌, ℕ, ◌*◌, ◌<◌, ◌≤◌, List, [], ◌∷◌, Option, Some, None, length, slice_get}
use Rattle.link_flights.proofs.Common.{get_or, refl, sym, ap, ◌∙◌, subst, arith, slice_index, unwrap_or, Ordering}
use Rattle.link_flights.proofs.Common.{length-map, nil_from_length, none-some, same_Some, IsFair, sides_under, Caps}
use Rattle.link_flights.proofs.Common.{Flow, Component, Flight, is_of, those_of, places_of, UnitFlight, flight_at}
use Rattle.link_flights.proofs.Common.{flights_at, rerated, left_caps, flows_of, flow_sent, flow_in_flight, FlowCaps}
use Rattle.link_flights.proofs.Common.{parts_alone_fair}
use Rattle.std.specs.Prelude.{option_map}
use Rattle.fairness.specs.Sides.Alone.{least_cap_of}
use Rattle.link_flights.specs.Flights.Rated.{AreFairRatesBeside}
use Rattle.link_flights.proofs.Flights.Sides.{flow_at, as_many}

-- the only one of a list
only : {X : Type 0} (xs : List X) (x : X) → slice_get xs 0 ≡ Some x → length xs ≡ 1 → xs ≡ x ∷ []
only [] x there one = absurd (none-some x there)
only (y ∷ []) x there one = ap (λ z. z ∷ []) (same_Some y x there)
only (y ∷ z ∷ xs) x there one = absurd (omega (arith, one))

pub one_listed : (xs : List ℕ) → 1 ≤ length xs → length xs < 2 → xs ≡ get_or xs 0 0 ∷ []
one_listed [] some few = absurd (omega (arith, some))
one_listed (x ∷ []) some few = refl
one_listed (x ∷ y ∷ xs) some few = absurd (omega (arith, few))

-- the caps that hold for a flow
abbrev pub own_caps : {P : Type 0} → Caps P → Flow P → FlowCaps
own_caps caps f = record {
  egress = caps.egress f.origin;
  ingress = caps.ingress f.recipient;
  link = caps.link f.origin f.recipient;
}

once : (least : Option ℕ) → least ≡ option_map (λ cap. 1 * cap) least
once None = refl
once (Some cap) = ap Some (omega arith)

module _ {P : Type 0} (cmp : P → P → Ordering) where
  -- a flow alone has the least of its caps
  least_fair : (caps : Caps P) (f : Flow P) (level : ℕ)
      → level ≡ unwrap_or (least_cap_of (own_caps caps f) f.delivered) 0
      → IsFair (sides_under cmp caps (f ∷ [])) 1 (slice_index (level ∷ []))
  least_fair caps f level is =
      let least = least_cap_of (own_caps caps f) f.delivered in
      subst (λ n. IsFair (sides_under cmp caps (f ∷ [])) 1 (slice_index (n ∷ []))) (sym is)
      (parts_alone_fair 1 (omega arith) cmp caps f (own_caps caps f) f.delivered refl refl refl refl least (once least))

  -- and so has the only one that is rated anew, of what the others leave
  pub only_beside : (caps : Caps P) (scale : ℕ) (component : Component P) (list : List (Flight P)) (now at : ℕ)
      (one : Flight P) → places_of (λ f. is_of cmp component (flight_at 0 f)) 0 list ≡ at ∷ []
      → slice_get list at ≡ Some one → (level : ℕ)
      → level ≡ unwrap_or (least_cap_of
      (own_caps (left_caps cmp caps scale component (flights_at now list)) (flow_sent cmp one.message.value))
      (flow_sent cmp one.message.value).delivered) 0
      → AreFairRatesBeside cmp caps scale component (flights_at now list) (level ∷ [])
  only_beside caps scale component list now at one places there level is =
      let us = flights_at now list in
      let left = left_caps cmp caps scale component us in
      let f = flow_sent cmp one.message.value in
      let count : length (flows_of cmp component us) ≡ 1 = as_many cmp component list now ∙ ap length places in
      let flows : flows_of cmp component us ≡ f ∷ [] =
      only (flows_of cmp component us) f
      (flow_at cmp component list now 0 at one (ap (λ ps. slice_get ps 0) places) there) count in
      record {
        one_each = sym (sym (length-map (those_of cmp component us) (flow_in_flight cmp)) ∙ count);
        fair = subst (λ fs. IsFair (sides_under cmp left fs) 1 (slice_index (level ∷ []))) (sym flows)
            (least_fair left f level is);
      }

  -- ---- where none is rated anew

  without : (caps : Caps P) (flows : List (Flow P)) (parts : ℕ → ℕ) → flows ≡ []
      → IsFair (sides_under cmp caps flows) 1 parts
  without caps [] parts none = record {
    some_part = omega arith;
    within = λ i side lt. absurd (omega (arith, lt));
    held = λ flow limited. absurd (omega (arith, limited.1.listed.1));
  }
  without caps (f ∷ flows) parts none = cc

  pub none_beside : (caps : Caps P) (scale : ℕ) (component : Component P) (list : List (Flight P)) (now : ℕ)
      → places_of (λ f. is_of cmp component (flight_at 0 f)) 0 list ≡ []
      → AreFairRatesBeside cmp caps scale component (flights_at now list) []
  none_beside caps scale component list now places =
      let us = flights_at now list in
      let count : length (flows_of cmp component us) ≡ 0 = as_many cmp component list now ∙ ap length places in
      record {
        one_each = sym (sym (length-map (those_of cmp component us) (flow_in_flight cmp)) ∙ count);
        fair = without (left_caps cmp caps scale component us) (flows_of cmp component us) (slice_index [])
            (nil_from_length (flows_of cmp component us) count);
      }

  pub all_go_on : (component : Component P) (now : ℕ) (us : List (UnitFlight P)) → rerated cmp component now 1 [] us ≡ us
  all_go_on component now [] = refl
  all_go_on component now (u ∷ us) = refl
