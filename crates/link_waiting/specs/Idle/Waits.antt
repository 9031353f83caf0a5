-- The messages that wait, and from when on the first of each pair may start.
use Rattle.std.specs.Prelude.{ℕ, zero, suc, Bool, false, ◌&&◌, nat_le, cond, List, [], ◌∷◌, ◌++◌, map, Option, Some, None}
use Rattle.std.specs.List.{find, fold}
use Rattle.std.specs.Option.{option_and_then}
use Rattle.std.specs.declared.cmp.Ordering.{Ordering}
use Rattle.fairness.specs.Sides.Subjects.{same_peer}
use Rattle.least_moment.specs.Moments.{moment_at}
use Rattle.link_simulation.specs.Simulation.Messages.{Message}
use Rattle.link_simulation.specs.Rule.Planned.{queued}
use Rattle.link_pairs.specs.declared.pair.PeerPair.{PeerPair}
use Rattle.link_waiting.specs.declared.slots.Slots.{Slots}
use Rattle.link_waiting.specs.Idle.Slots.{Waiter, live, has_pair}

-- of a message that waits, the moment from which on the first one of its pair may start, if one was told
pub record Told (P : Type 0) : Type 0 where
  pub origin : P
  pub recipient : P
  pub since : Option ℕ

-- the messages, in the order of pairs, those of a pair in order of `enqueue`; and what is told of the pair of each, in
-- order of `enqueue`
pub record Waits (P : Type 0) : Type 0 where
  pub messages : List (Message P)
  pub told : List (Told P)

-- the same, as they are and as they were at the last mark
pub record AllWaits (P : Type 0) : Type 0 where
  pub messages : List (Message P)
  pub told : List (Told P)
  pub before : Waits P

abbrev pub none_waits : {P : Type 0} → Waits P
none_waits = record { messages = []; told = [] }

-- there is a moment, and it has come by that time
abbrev pub has_come : ℕ → Option ℕ → Bool
has_come time None = false
has_come time (Some moment) = nat_le moment time

-- it alone, if there is one
abbrev pub those : {P : Type 0} → Option (Waiter P) → List (Waiter P)
those None = []
those (Some waiter) = waiter ∷ []

-- the first one of each pair of which a moment was told that has come by that time, the pairs by their numbers up to one
abbrev pub due_below : {P : Type 0} → ℕ → List (Option ℕ) → ℕ → List (Waiter P) → List (Waiter P)
due_below time sinces zero waiters = []
due_below time sinces (suc pair) waiters =
    due_below time sinces pair waiters
    ++ cond (has_come time (moment_at sinces pair)) (those (find (has_pair pair) waiters)) []

-- the ordered pair that a key names
abbrev pub pair_of_key : {P : Type 0} → PeerPair P → P × P
pair_of_key key = (key.origin, key.recipient)

abbrev pub told_of : {P : Type 0} → List (Option ℕ) → Waiter P → Told P
told_of sinces waiter = record {
  origin = waiter.message.origin;
  recipient = waiter.message.recipient;
  since = moment_at sinces waiter.pair;
}

module _ {P : Type 0} (cmp : P → P → Ordering) where
  -- the messages, enqueued one after another
  abbrev pub queue_of : List (Waiter P) → List (Message P)
  queue_of = fold (λ messages waiter. queued cmp waiter.message messages) []

  -- the moment from which on the first message of a pair may start, if one was told
  abbrev pub since_of : List (Told P) → P → P → Option ℕ
  since_of told origin recipient = option_and_then (λ one. one.since)
      (find (λ one. same_peer cmp origin one.origin && same_peer cmp recipient one.recipient) told)

  abbrev pub waits_in : List (Option ℕ) → List (Waiter P) → Waits P
  waits_in sinces waiters = record { messages = queue_of waiters; told = map (told_of sinces) waiters }

  -- what waits in the slots, none of it once all is given up, and what waited at the last mark
  abbrev pub waits_of : Bool → Slots P → AllWaits P
  waits_of given_up slots =
      let now : Waits P = cond given_up none_waits (waits_in slots.sinces.items (live slots.slots.items)) in
      record {
        messages = now.messages;
        told = now.told;
        before = waits_in slots.sinces.before (live slots.slots.before);
      }
