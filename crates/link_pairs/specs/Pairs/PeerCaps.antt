-- The caps of peers, as a list with one entry for each that has been limited.
use Rattle.std.specs.Prelude.{ℕ, ◌≤◌, List, [], ◌∷◌, length, Option, None}
use Rattle.std.specs.declared.cmp.Ordering.{Ordering}
use Rattle.undo_list.specs.Versions.{Versions}
use Rattle.link_pairs.specs.declared.peers.Caps.{Caps}
use Rattle.fairness.specs.Lists.Sorted.{value_at}

-- a peer with its caps
pub record PeerCaps (P : Type 0) : Type 0 where
  pub peer : P
  pub egress : Option ℕ
  pub ingress : Option ℕ

-- the caps, as they are and as they were at the last mark
pub record AllCaps (P : Type 0) : Type 0 where
  pub entries : List (PeerCaps P)
  pub before : List (PeerCaps P)

-- the cap on all that a peer sends
abbrev pub egress_of : {P : Type 0} → (P → P → Ordering) → List (PeerCaps P) → P → Option ℕ
egress_of cmp entries = value_at cmp (λ entry. entry.peer) (λ entry. entry.egress) None entries

-- the cap on all that a peer receives
abbrev pub ingress_of : {P : Type 0} → (P → P → Ordering) → List (PeerCaps P) → P → Option ℕ
ingress_of cmp entries = value_at cmp (λ entry. entry.peer) (λ entry. entry.ingress) None entries

-- the caps that stand at the places of the peers
abbrev pub caps_by_peer : {P : Type 0} → List P → List Caps → List (PeerCaps P)
caps_by_peer [] caps = []
caps_by_peer (peer ∷ peers) [] = []
caps_by_peer (peer ∷ peers) (one ∷ caps) =
    record { peer = peer; egress = one.egress; ingress = one.ingress } ∷ caps_by_peer peers caps

-- each of the caps is of a peer with a number
pub record AreInNumbers {P : Type 0} (peers : List P) (caps : Versions Caps) : Type 0 where
  pub now : length caps.items ≤ length peers
  pub before : length caps.before ≤ length peers
