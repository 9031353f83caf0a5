-- Ordered pairs of peers, and the numbers that they have by their places in a list.
use Rattle.std.specs.Prelude.{◌≡◌, ℕ, true, Bool, ◌&&◌, List, [], ◌∷◌, ◌++◌, All, slice_get}
use Rattle.std.specs.Prelude.{Option, Some, None, MatchOption}
use Rattle.std.specs.List.{position}
use Rattle.std.specs.declared.cmp.Ordering.{Ordering}
use Rattle.fairness.specs.Sides.Subjects.{same_peer}
use Rattle.peer_numbers.specs.declared.ends.Ends.{Ends}
use Rattle.peer_numbers.specs.Peers.{number_of}

module _ {P : Type 0} (cmp : P → P → Ordering) where
  -- whether it is the ordered pair of the two
  abbrev pub is_pair_of : P → P → P × P → Bool
  is_pair_of origin recipient pair = same_peer cmp origin pair.0 && same_peer cmp recipient pair.1

  -- the number of a pair: the place of the first that is one with it
  abbrev pub number_of_pair : List (P × P) → P → P → Option ℕ
  number_of_pair pairs origin recipient = position (is_pair_of origin recipient) pairs

  -- the pairs with that one: they stay if it is among them, and else one that is one with it comes to the end
  abbrev pub IsWithPair : List (P × P) → P → P → List (P × P) → Type 0
  IsWithPair pairs origin recipient new =
      MatchOption (number_of_pair pairs origin recipient)
      ((copy : P × P) × (is_pair_of origin recipient copy ≡ true) × (new ≡ pairs ++ copy ∷ []))
      (λ number. new ≡ pairs)

-- the pair of two peers, where both are there
abbrev pub both : {P : Type 0} → Option P → Option P → List (P × P)
both (Some origin) (Some recipient) = (origin, recipient) ∷ []
both (Some origin) None = []
both None recipient = []

-- the pairs of the peers that stand at those places
abbrev pub listed_pairs : {P : Type 0} → List P → List Ends → List (P × P)
listed_pairs peers [] = []
listed_pairs peers (ends ∷ more) =
    both (slice_get peers ends.origin) (slice_get peers ends.recipient) ++ listed_pairs peers more

-- a peer stands at that place, and no earlier
pub record IsFirstPlace {P : Type 0} (cmp : P → P → Ordering) (peers : List P) (place : ℕ) : Type 0 where
  pub peer : P
  pub there : slice_get peers place ≡ Some peer
  pub first : number_of cmp peers peer ≡ Some place

-- the places are those of peers
pub record AreEnds {P : Type 0} (cmp : P → P → Ordering) (peers : List P) (ends : Ends) : Type 0 where
  pub origin : IsFirstPlace cmp peers ends.origin
  pub recipient : IsFirstPlace cmp peers ends.recipient

-- all places are those of peers
abbrev pub ArePairsNumbered : {P : Type 0} → (P → P → Ordering) → List P → List Ends → Type 0
ArePairsNumbered cmp peers = All (AreEnds cmp peers)
