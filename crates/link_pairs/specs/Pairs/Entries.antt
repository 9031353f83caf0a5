-- What is known of ordered pairs of peers, as a list with one entry for each that a call has named.
use Rattle.std.specs.Prelude.{◌≡◌, ℕ, ◌≤◌, ◌&&◌, cond, List, [], ◌∷◌, All, length, Option, Some, None}
use Rattle.std.specs.List.{find}
use Rattle.std.specs.declared.cmp.Ordering.{Ordering}
use Rattle.std.specs.Ordering.{ordering_then}
use Rattle.undo_list.specs.Versions.{Versions}
use Rattle.link_pairs.specs.declared.known_pairs.Known.{Known}
use Rattle.fairness.specs.Sides.Subjects.{same_peer}
use Rattle.link_simulation.specs.Simulation.Messages.{Message}
use Rattle.link_simulation.specs.Simulation.World.{later_of}
use Rattle.fairness.specs.Lists.Sorted.{value_at}

-- how one pair stands to another: by origin, then by recipient
abbrev pub pair_cmp : {P : Type 0} → (P → P → Ordering) → (P × P) → (P × P) → Ordering
pair_cmp cmp a b = ordering_then (cmp a.0 b.0) (cmp a.1 b.1)

-- an ordered pair with what is known of it: its cap, and the moment before which no later message of it arrives
pub record Pair (P : Type 0) : Type 0 where
  pub key : P × P
  pub cap : Option ℕ
  pub last_arrival : Option ℕ

-- the ordered pair of peers
abbrev pub key_of : {P : Type 0} → Pair P → P × P
key_of pair = pair.key

-- what is known, as it is and as it was at the last mark
pub record AllPairs (P : Type 0) : Type 0 where
  pub entries : List (Pair P)
  pub before : List (Pair P)

-- what stands at the places of the pairs
abbrev pub known_by_pair : {P : Type 0} → List (P × P) → List Known → List (Pair P)
known_by_pair [] known = []
known_by_pair (pair ∷ pairs) [] = []
known_by_pair (pair ∷ pairs) (one ∷ known) =
    record { key = pair; cap = one.cap; last_arrival = one.last_arrival } ∷ known_by_pair pairs known

-- all that is known is of a pair with a number
pub record AreInNumbers {P : Type 0} (pairs : List (P × P)) (known : Versions Known) : Type 0 where
  pub now : length known.items ≤ length pairs
  pub before : length known.before ≤ length pairs

-- no pair has a cap
abbrev pub HaveNoCap : List Known → Type 0
HaveNoCap = All (λ one. one.cap ≡ None)

module _ {P : Type 0} (cmp : P → P → Ordering) where
  -- the cap on what goes from one peer to another
  abbrev pub link_of : List (Pair P) → P → P → Option ℕ
  link_of pairs origin recipient = value_at (pair_cmp cmp) key_of (λ pair. pair.cap) None pairs (origin, recipient)

  -- the moment before which no later message of a pair arrives
  abbrev pub arrival_of : List (Pair P) → P → P → Option ℕ
  arrival_of pairs origin recipient = value_at (pair_cmp cmp) key_of (λ pair. pair.last_arrival) None pairs
      (origin, recipient)

  -- the first waiting message of a pair
  abbrev pub first_of : List (Message P) → P → P → Option (Message P)
  first_of waiting origin recipient = find (λ m. same_peer cmp origin m.origin
      && same_peer cmp recipient m.recipient) waiting

  -- the last arrivals, of which that of one pair is no earlier than that moment
  abbrev pub raised_at : (P → P → Option ℕ) → P → P → ℕ → P → P → Option ℕ
  raised_at last origin recipient at p q = cond (same_peer cmp origin p && same_peer cmp recipient q)
      (Some (later_of (last p q) at)) (last p q)
