-- Peers, and the numbers that they have by their places in a list.
use Rattle.std.specs.Prelude.{◌≡◌, ℕ, true, List, [], ◌∷◌, ◌++◌, Option, Some, MatchOption, slice_get}
use Rattle.std.specs.List.{position}
use Rattle.std.specs.Map.{lookup}
use Rattle.std.specs.declared.cmp.Ordering.{Ordering}
use Rattle.fairness.specs.Sides.Subjects.{same_peer}

module _ {P : Type 0} (cmp : P → P → Ordering) where
  -- the number of a peer: the place of the first that is one with it
  abbrev pub number_of : List P → P → Option ℕ
  number_of peers peer = position (same_peer cmp peer) peers

  -- the peers with that one: they stay if it is among them, and else one that is one with it comes to the end
  abbrev pub IsWithPeer : List P → P → List P → Type 0
  IsWithPeer peers peer new =
      MatchOption (number_of peers peer)
      ((copy : P) × (same_peer cmp copy peer ≡ true) × (new ≡ peers ++ copy ∷ []))
      (λ number. new ≡ peers)

-- the entries of a map say of each peer its place in the list, and each of the list is told by its own place
pub record AreNumbered {P : Type 0} (cmp : P → P → Ordering) (peers : List P) (entries : List (P × ℕ)) : Type 0 where
  pub found : (peer : P) → lookup (same_peer cmp peer) entries ≡ number_of cmp peers peer
  pub first : (number : ℕ) (peer : P) → slice_get peers number ≡ Some peer → number_of cmp peers peer ≡ Some number
