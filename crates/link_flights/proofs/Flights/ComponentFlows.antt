-- Flows of messages in flight, one after another, and those of a component of all.
use Rattle.link_flights.proofs.Common.{◌≡◌, ℕ, ◌+◌, ◌<◌, nat_le, true, not, ◌&&◌, ◌||◌, List, [], ◌∷◌}
use Rattle.link_flights.proofs.Common.{◌++◌, length, take, get_or, sym, ap, ap₂, ◌∙◌, arith, if◌then◌else◌}
use Rattle.link_flights.proofs.Common.{list_any, Ordering, Arc, Global, le-leb, map-append, End, Origin}
use Rattle.link_flights.proofs.Common.{Recipient, Component, Flight, keeps, is_of, those_of, is_receiver, has_both}
use Rattle.link_flights.proofs.Common.{has_end, joins}
use Rattle.link_flights.proofs.Common.{touches, suits, is_closed, UnitFlight, flight_at, flights_at, take_more}
use Rattle.std.proofs.Common.{Result, Ok, Err, OnOk}
use Rattle.link_pairs.specs.declared.message.Message.{Message}
use Rattle.std.proofs.Math.Bool.{and-false, or-true}
use Rattle.link_flights.proofs.Common.{all_passed}
use Rattle.link_flights.proofs.Flights.Places.{all_pass_filter}

module _ {P : Type 0} (cmp : P → P → Ordering) (now : ℕ) (list : List (Flight P)) (at : ℕ)
    (one : Flight P) (inside : at < length list) (is : one ≡ get_or list at one) where
  -- those up to the next place
  pub one_more : flights_at now (take (at + 1) list)
      ≡ flights_at now (take at list) ++ flight_at now one ∷ []
  one_more =
      ap (flights_at now) (take_more list at one inside ∙ ap (λ x. take at list ++ x ∷ []) (sym is))
      ∙ map-append (λ (f : Flight P). flight_at now f) (take at list) (one ∷ [])

-- what holds in any case holds after a success
pub always_ok : {T E Q : Type 0} (r : Result T E) → Q → OnOk r Q
always_ok (Ok x) q = q
always_ok (Err e) q = tt

-- all are of a component of all senders and receivers, with no level
module _ {P : Type 0} (cmp : P → P → Ordering) (component : Component P) (whole : component.whole ≡ true)
    (level : component.level ≡ 0) where
  pub is_of_whole : (u : UnitFlight P) → is_of cmp component u ≡ true
  is_of_whole u =
      ap
      (λ b. (b || list_any (λ j. joins cmp j Origin u.message.origin u.message.recipient) component.joined.items)
      && not (keeps component u)) whole
      ∙ ap (λ n. not (u.rated && not (nat_le n u.rate))) level
      ∙ ap (λ b. not (u.rated && not b)) (le-leb 0 u.rate (omega arith)) ∙ ap not (and-false u.rated)

  pub all_of_whole : (us : List (UnitFlight P)) → those_of cmp component us ≡ us
  all_of_whole = all_pass_filter (is_of cmp component) is_of_whole

-- a component of all senders and receivers, whatever its level
module _ {P : Type 0} (cmp : P → P → Ordering) (component : Component P) (whole : component.whole ≡ true) where
  has : (end : End) (p q : P) → has_end cmp component end p q ≡ true
  has end p q = ap (λ b. b || list_any (λ j. joins cmp j end p q) component.joined.items) whole

  pub both : (m : Message P) → has_both cmp component m ≡ true
  both m = ap₂ (λ a b. a && b) (has Origin m.origin m.recipient) (has Recipient m.origin m.recipient)

  pub touched : (m : Message P) → touches cmp component m ≡ true
  touched m = ap (λ b. b || is_receiver cmp component m.origin m.recipient) (has Origin m.origin m.recipient)

  suited : (u : UnitFlight P) → suits cmp component u ≡ true
  suited u =
      ap (λ b. keeps component u || (if b then has_both cmp component u.message else u.rated)) (touched u.message)
      ∙ ap (λ b. keeps component u || b) (both u.message) ∙ or-true (keeps component u)

  pub closed_whole : (done : List (Arc (Message P) Global)) (us : List (UnitFlight P))
      → is_closed cmp component done us ≡ true
  closed_whole done us =
      ap₂ (λ a b. a && b) (all_passed (λ m. has_both cmp component m.value) done (λ m among. both m.value))
      (all_passed (suits cmp component) us (λ u among. suited u))
