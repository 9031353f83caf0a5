-- What an event touches: senders and receivers of messages in flight, and the level below which rates stay.
use Rattle.std.specs.Prelude.{◌≡◌, ℕ, suc, ◌≤◌, nat_le, Bool, true, false, not, ◌&&◌, ◌||◌, [], ◌∷◌, cond}
use Rattle.std.specs.Prelude.{if◌then◌else◌, List, take}
use Rattle.std.specs.Prelude.{slice_get, slice_index, Some, ◌++◌, ◌⊎◌, All, Contains}
use Rattle.std.specs.List.{filter, list_all, list_any}
use Rattle.std.specs.declared.cmp.Ordering.{Ordering}
use Rattle.std.specs.declared.sync.Arc.{Arc}
use Rattle.std.specs.declared.alloc.Global.{Global}
use Rattle.fairness.specs.Sides.Caps.{Caps}
use Rattle.fairness.specs.Sides.Subjects.{same_peer}
use Rattle.link_pairs.specs.declared.message.Message.{Message}
use Rattle.link_flights.specs.Flights.Flight.{UnitFlight, flight_at}
use Rattle.link_flights.specs.declared.flight.Flight.{Flight}
use Rattle.link_flights.specs.Flights.Table.{share}
use Rattle.link_flights.specs.declared.component.Component.{Component}
use Rattle.link_flights.specs.declared.joined.Ends.{Ends}
use Rattle.link_flights.specs.declared.joined.Ends.TheVariants.{Both, Sender, Receiver}
use Rattle.link_flights.specs.declared.joined.Joined.{Joined}
use Rattle.link_flights.specs.declared.table.End.{End}
use Rattle.link_flights.specs.declared.table.End.TheVariants.{Origin, Recipient}

-- whether a message in flight goes on at its rate, which is below the level
abbrev pub keeps : {P : Type 0} → Component P → UnitFlight P → Bool
keeps component u = u.rated && not (nat_le component.level u.rate)

-- where the one of a number stands, of those of which it has an end; of all, each stands at its number
abbrev pub place_of : {P : Type 0} → Component P → ℕ → ℕ
place_of component number = if component.whole then number else slice_index component.near.items number

-- the places of those of a list that pass a test, where the first of the list has a place
abbrev pub places_of : {X : Type 0} → (X → Bool) → ℕ → List X → List ℕ
places_of test first [] = []
places_of test first (x ∷ xs) =
    cond (test x) (first ∷ places_of test (suc first) xs) (places_of test (suc first) xs)

-- whether that end is one of those by which a message joins others
abbrev pub have_end : Ends → End → Bool
have_end Both end = true
have_end Sender Origin = true
have_end Sender Recipient = false
have_end Receiver Origin = false
have_end Receiver Recipient = true

-- wherever there is a cap on all that its sender sends, or on all that its receiver receives, one that has joined joins
-- others by that end
abbrev pub IsTied : {P : Type 0} → Caps P → Joined P → Type 0
IsTied caps j =
    ((cap : ℕ) → caps.egress j.message.value.origin ≡ Some cap → have_end j.ends Origin ≡ true)
    × ((cap : ℕ) → caps.ingress j.message.value.recipient ≡ Some cap → have_end j.ends Recipient ≡ true)

module _ {P : Type 0} (cmp : P → P → Ordering) where
  -- whether one that has joined brings in an end of what goes from one peer to another: it has that end, too, and joins
  -- others by it, or goes between the same peers
  abbrev pub joins : Joined P → End → P → P → Bool
  joins j Origin p q =
      same_peer cmp p j.message.value.origin && (have_end j.ends Origin || same_peer cmp q j.message.value.recipient)
  joins j Recipient p q =
      same_peer cmp q j.message.value.recipient && (have_end j.ends Recipient || same_peer cmp p j.message.value.origin)

  -- whether it has that end of what goes from one peer to another
  abbrev pub has_end : Component P → End → P → P → Bool
  has_end component end p q = component.whole || list_any (λ j. joins j end p q) component.joined.items

  -- whether it has the end at its sender
  abbrev pub is_sender : Component P → P → P → Bool
  is_sender component p q = has_end component Origin p q

  -- whether it has the end at its receiver
  abbrev pub is_receiver : Component P → P → P → Bool
  is_receiver component p q = has_end component Recipient p q

  -- whether it has both ends of a message
  abbrev pub has_both : Component P → Message P → Bool
  has_both component m = is_sender component m.origin m.recipient && is_receiver component m.origin m.recipient

  -- whether it has an end of a message
  abbrev pub touches : Component P → Message P → Bool
  touches component m = is_sender component m.origin m.recipient || is_receiver component m.origin m.recipient

  -- whether one that has joined brings in an end of a message
  abbrev pub share_an_end : Joined P → Message P → Bool
  share_an_end j m = joins j Origin m.origin m.recipient || joins j Recipient m.origin m.recipient

  -- whether a message in flight is rated anew: it has the end at its sender, and that does not keep its rate
  abbrev pub is_of : Component P → UnitFlight P → Bool
  is_of component u = is_sender component u.message.origin u.message.recipient && not (keeps component u)

  -- the messages in flight that are rated anew
  abbrev pub those_of : Component P → List (UnitFlight P) → List (UnitFlight P)
  those_of component us = filter (is_of component) us

  -- those of which it has an end
  abbrev pub near_of : Component P → List (UnitFlight P) → List (UnitFlight P)
  near_of component us = filter (λ u. touches component u.message) us

  -- the ones of a list of which it has an end
  abbrev pub those_near : Component P → List (Flight P) → List (Flight P)
  those_near component list = filter (λ f. touches component f.message.value) list

  -- these are their places
  abbrev pub AreNear : Component P → List ℕ → List (Flight P) → Type 0
  AreNear component near list = near ≡ places_of (λ f. touches component f.message.value) 0 list

  -- it has an end of the one at a place
  abbrev pub IsTouched : Component P → List (Flight P) → ℕ → Type 0
  IsTouched component list at =
      (one : Flight P) × (slice_get list at ≡ Some one)
      × (touches component one.message.value ≡ true)

  -- and so of each at these places
  abbrev pub AreTouched : Component P → List ℕ → List (Flight P) → Type 0
  AreTouched component near list = All (IsTouched component list) near

  -- it has both ends of the one at a place, if that keeps no rate
  abbrev pub IsSuited : Component P → List (Flight P) → ℕ → Type 0
  IsSuited component list at = (one : Flight P) → slice_get list at ≡ Some one
      → (keeps component (flight_at 0 one) || has_both component one.message.value) ≡ true

  -- and so at each of these places
  abbrev pub AreSuited : Component P → List ℕ → List (Flight P) → Type 0
  AreSuited component near list = All (IsSuited component list) near

  -- whether it has both ends of a message in flight that keeps no rate, or neither where that has a rate
  abbrev pub suits : Component P → UnitFlight P → Bool
  suits component u =
      keeps component u
      || (if touches component u.message then has_both component u.message else u.rated)

  -- whether it is a component by itself: it suits all that is in flight, and has both ends of what is done
  abbrev pub is_closed : Component P → List (Arc (Message P) Global) → List (UnitFlight P) → Bool
  is_closed component done us =
      list_all (λ m. has_both component m.value) done && list_all (suits component) us

-- ---- how it is found

-- a list goes on as another
abbrev pub StartsWith : {X : Type 0} → List X → List X → Type 0
StartsWith {X} xs ys = (more : List X) × (ys ≡ xs ++ more)

-- each that has joined is tied by the caps
abbrev pub AreTied : {P : Type 0} → Caps P → Component P → Type 0
AreTied caps component = All (IsTied caps) component.joined.items

-- where each was tied, each is
abbrev pub AreStillTied : {P : Type 0} → Caps P → Component P → Component P → Type 0
AreStillTied caps old new = AreTied caps old → AreTied caps new

-- the places that were listed still are
abbrev pub AreStillListed : List ℕ → List ℕ → Type 0
AreStillListed before after = (at : ℕ) → Contains before at → Contains after at

-- it is noted at just the places that are listed
pub record AreNoted (near : List ℕ) (noted : List Bool) : Type 0 where
  pub listed : (at : ℕ) → slice_get noted at ≡ Some true → Contains near at
  pub only : All (λ at. slice_get noted at ≡ Some true) near

-- each place of a list has its number noted at it
abbrev pub AreNumbered : List ℕ → List ℕ → Type 0
AreNumbered places number_at = (k at : ℕ) → slice_get places k ≡ Some at → slice_get number_at at ≡ Some k

-- they are in order, from a place on
abbrev pub Ascends : ℕ → List ℕ → Type 0
Ascends first [] = Unit {0}
Ascends first (p ∷ ps) = (first ≤ p) × Ascends (suc p) ps

module _ {P : Type 0} (cmp : P → P → Ordering) where
  -- one that has joined brings in an end of the one at a place
  abbrev pub SharesAt : Joined P → List (Flight P) → ℕ → Type 0
  SharesAt j list at =
      (one : Flight P) × (slice_get list at ≡ Some one)
      × (share_an_end cmp j one.message.value ≡ true)

  -- the one at a place shares that end with the message
  abbrev pub SharesEndAt : End → Message P → List (Flight P) → ℕ → Type 0
  SharesEndAt end m list at =
      (one : Flight P) × (slice_get list at ≡ Some one)
      × (share cmp end m one.message.value ≡ true)

  -- each in flight that shares that end with the message is listed
  abbrev pub AreListedAt : End → Message P → List ℕ → List (Flight P) → Type 0
  AreListedAt end m near list = (at : ℕ) (one : Flight P) → slice_get list at ≡ Some one
      → share cmp end m one.message.value ≡ true → Contains near at

  -- those that share that end with a message were listed, and no others, if that is one of the ends by which it joins
  -- others; else none were
  pub record HasListedEnd (end : End) (ends : Ends) (m : Message P) (list : List (Flight P)) (before near : List ℕ)
      : Type 0 where
    pub listed : have_end ends end ≡ true → AreListedAt end m near list
    pub more : AreStillListed before near
    pub only : All (λ p. Contains before p ⊎ ((have_end ends end ≡ true) × SharesEndAt end m list p)) near

  -- each in flight of which one that has joined brings in an end is listed
  abbrev pub AreListed : Joined P → List ℕ → List (Flight P) → Type 0
  AreListed j near list = (at : ℕ) (one : Flight P) → slice_get list at ≡ Some one
      → share_an_end cmp j one.message.value ≡ true → Contains near at

  -- each of which any of these does
  abbrev pub AreAllListed : List (Joined P) → List ℕ → List (Flight P) → Type 0
  AreAllListed joined near list = All (λ j. AreListed j near list) joined

  -- the first so many of the messages that have joined were looked through: what shares an end with one is listed, with
  -- an end in the component, and with both unless it keeps its rate
  pub record IsWalked (n : ℕ) (component : Component P) (list : List (Flight P)) : Type 0 where
    pub listed : AreAllListed (take n component.joined.items) component.near.items list
    pub touched : AreTouched cmp component component.near.items list
    pub suited : AreSuited cmp component component.near.items list

  -- those that have come after so many have an end in the component
  abbrev pub AllNewTouch : Component P → ℕ → List (Flight P) → Type 0
  AllNewTouch component n list = (at : ℕ) (one : Flight P) → n ≤ at → slice_get list at ≡ Some one
      → touches cmp component one.message.value ≡ true
