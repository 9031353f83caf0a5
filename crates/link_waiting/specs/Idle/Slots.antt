-- The messages that wait, each in a slot, in order of `enqueue`; a slot is empty once its message has left. And the moment
-- from which on the first one of a pair may start, by the number of the pair.
use Rattle.std.specs.Prelude.{◌≡◌, ℕ, ◌<◌, ◌≤◌, ◌==◌, Bool, true, false, ◌&&◌, cond}
use Rattle.std.specs.Prelude.{List, ◌∷◌, ◌++◌, length, map, All, Option, Some, None, is_none, option_map}
use Rattle.std.specs.List.{filter_map, find, count_by}
use Rattle.std.specs.declared.cmp.Ordering.{Ordering}
use Rattle.fairness.specs.Sides.Subjects.{same_peer}
use Rattle.least_moment.specs.Moments.{moment_at}
use Rattle.link_simulation.specs.Simulation.Messages.{Message}
use Rattle.link_pairs.specs.Pairs.Messages.{message_of}
use Rattle.peer_numbers.specs.Pairs.{number_of_pair}
use Rattle.link_waiting.specs.declared.slots.Slot.{Slot}
use Rattle.link_waiting.specs.declared.slots.Slots.{Slots}

-- a message that waits, with the number of its pair
pub record Waiter (P : Type 0) : Type 0 where
  pub message : Message P
  pub pair : ℕ

module _ {P : Type 0} where
  abbrev pub waiter_of : Slot P → Waiter P
  waiter_of slot = record { message = message_of slot.message.value; pair = slot.pair }

  -- those that are in slots, in order
  abbrev pub live : List (Option (Slot P)) → List (Waiter P)
  live = filter_map (option_map waiter_of)

  abbrev pub pair_in : Option (Slot P) → Option ℕ
  pair_in = option_map (λ slot. slot.pair)

  -- whether it is of the pair with that number
  abbrev pub has_pair : ℕ → Waiter P → Bool
  has_pair pair waiter = waiter.pair == pair

  -- whether it is of the pair with that number, if there is a number
  abbrev pub has_number : Option ℕ → Waiter P → Bool
  has_number None waiter = false
  has_number (Some pair) waiter = has_pair pair waiter

  -- the first slot of a pair, which stands at that place
  pub record IsFirstSlot (pair : ℕ) (slots : List (Option (Slot P))) (at : ℕ) : Type 0 where
    pub before : List (Option (Slot P))
    pub slot : Slot P
    pub after : List (Option (Slot P))
    pub split : slots ≡ before ++ Some slot ∷ after
    pub is_at : at ≡ length before
    pub others : find (has_pair pair) (live before) ≡ None
    pub same : has_pair pair (waiter_of slot) ≡ true

-- what is told of pairs fits what waits: there is a place for the pair of each, and nothing is told of another pair
pub record AreTold {P : Type 0} (sinces : List (Option ℕ)) (waiters : List (Waiter P)) : Type 0 where
  pub room : All (λ waiter. waiter.pair < length sinces) waiters
  pub only : (pair : ℕ) → find (has_pair pair) waiters ≡ None → moment_at sinces pair ≡ None

-- that moment is told of the pair, or none is, and of the others what was
abbrev pub IsToldAnew : ℕ → Option ℕ → List (Option ℕ) → List (Option ℕ) → Type 0
IsToldAnew pair moment old new = (at : ℕ) → moment_at new at ≡ cond (at == pair) moment (moment_at old at)

-- what is kept beside the slots fits them
pub record Stands {P : Type 0} (slots : Slots P) : Type 0 where
  pub chains : slots.chains.now.stands ≡ map pair_in slots.slots.items
  pub told : AreTold slots.sinces.items (live slots.slots.items)
  pub moments : slots.moments ≡ slots.sinces.items
  pub gaps : slots.gaps ≡ count_by is_none slots.slots.items

-- and it can be made to fit those at the last mark with no memory
pub record Marked {P : Type 0} (slots : Slots P) : Type 0 where
  pub chains : slots.chains.before.stands ≡ map pair_in slots.slots.before
  pub told : AreTold slots.sinces.before (live slots.slots.before)
  pub long : length slots.sinces.before ≤ length slots.moments

module _ {P : Type 0} (cmp : P → P → Ordering) where
  -- whether it is of the ordered pair
  abbrev pub is_of : P → P → Waiter P → Bool
  is_of origin recipient waiter =
      same_peer cmp origin waiter.message.origin && same_peer cmp recipient waiter.message.recipient

  -- each has the number of its pair
  abbrev pub AreNumbered : List (P × P) → List (Waiter P) → Type 0
  AreNumbered pairs = All (λ waiter.
      number_of_pair cmp pairs waiter.message.origin waiter.message.recipient ≡ Some waiter.pair)

  -- what is kept of the messages that wait, and was at the last mark
  pub record AreKept (pairs : List (P × P)) (slots : Slots P) : Type 0 where
    pub stands : Stands slots
    pub marked : Marked slots
    pub now : AreNumbered pairs (live slots.slots.items)
    pub before : AreNumbered pairs (live slots.slots.before)
