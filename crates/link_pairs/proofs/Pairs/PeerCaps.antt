-- The caps of peers by their numbers.
use Rattle.std.proofs.Common.{◌≡◌, ℕ, ◌<◌, ◌≤◌, if◌then◌else◌, List, [], ◌∷◌, length, slice_set, Option, Some, None, refl, true, sym, ap, ◌∙◌}
use mathlib.Core.Path.{fun_ext}
use Rattle.std.specs.Cmp.{IsTotalOrder}
use Rattle.std.specs.declared.cmp.Ordering.{Ordering}
use Rattle.fairness.specs.Lists.Sorted.{value_at}
use Rattle.fairness.specs.Sides.Subjects.{same_peer}
use Rattle.link_simulation.specs.Simulation.Messages.{with_cap}
use Rattle.peer_numbers.specs.Peers.{number_of, IsWithPeer}
use Rattle.link_pairs.specs.declared.peers.Caps.{Caps}
use Rattle.link_pairs.specs.Pairs.PeerCaps.{PeerCaps, caps_by_peer}
use Rattle.link_pairs.specs.Pairs.Room.{IsFilledUp}
use Rattle.link_pairs.proofs.Pairs.ByNumber.{said, entries_of, entries_of-more, value_by_number, value_filled, value_set, IsGrown, grown}

module _ {P : Type 0} where
  abbrev pub entry : P → Caps → PeerCaps P
  entry peer one = record { peer = peer; egress = one.egress; ingress = one.ingress }

  by_peer : (peers : List P) (caps : List Caps) → caps_by_peer peers caps ≡ entries_of entry peers caps
  by_peer [] caps = refl
  by_peer (peer ∷ peers) [] = refl
  by_peer (peer ∷ peers) (one ∷ caps) = ap (λ es. entry peer one ∷ es) (by_peer peers caps)

  -- a peer more changes nothing
  pub caps_stay : (peers new : List P) (caps : List Caps) → IsGrown peers new → length caps ≤ length peers
      → caps_by_peer new caps ≡ caps_by_peer peers caps
  caps_stay peers new caps more few =
      by_peer new caps
      ∙ ap (λ keys. entries_of entry keys caps) more.is
      ∙ entries_of-more entry peers more.more caps few
      ∙ sym (by_peer peers caps)

-- one of the caps of a peer
module _ {P : Type 0} (cmp : P → P → Ordering) (total : IsTotalOrder cmp) (value : PeerCaps P → Option ℕ)
    (says : Caps → Option ℕ) (is_value : (peer : P) (one : Caps) → value (entry peer one) ≡ says one) where
  abbrev cap_of : List (PeerCaps P) → P → Option ℕ
  cap_of entries = value_at cmp (λ entry. entry.peer) value None entries

  -- it stands by the number of the peer
  pub cap_by_number : (peers : List P) (caps : List Caps) (peer : P)
      → said says caps (number_of cmp peers peer) ≡ cap_of (caps_by_peer peers caps) peer
  cap_by_number peers caps peer =
      sym
      (ap (λ es. cap_of es peer) (by_peer peers caps)
      ∙ value_by_number cmp total entry (λ entry. entry.peer) (λ k i. refl) value says is_value peers caps peer)

  -- room is made, for one peer more
  pub cap_kept : (peers new : List P) (caps filled : List Caps) (filler : Caps) (number : ℕ) → IsGrown peers new
      → length caps ≤ length peers → IsFilledUp caps filler number filled → says filler ≡ None
      → cap_of (caps_by_peer new filled) ≡ cap_of (caps_by_peer peers caps)
  cap_kept peers new caps filled filler number more few fill nothing =
      fun_ext (λ q.
      ap (λ es. cap_of es q) (by_peer new filled ∙ ap (entries_of entry new) fill.is)
      ∙ value_filled cmp total entry (λ entry. entry.peer) (λ k i. refl) value says is_value new caps filler fill.count
      nothing q
      ∙ ap (λ es. cap_of es q) (sym (by_peer new caps) ∙ caps_stay peers new caps more few))

  -- its cap is set
  pub cap_set : (peers : List P) (caps : List Caps) (peer : P) (number : ℕ) (one : Caps)
      → number_of cmp peers peer ≡ Some number → number < length caps
      → cap_of (caps_by_peer peers (slice_set caps number one))
      ≡ with_cap cmp (cap_of (caps_by_peer peers caps)) peer (says one)
  cap_set peers caps peer number one there within =
      fun_ext (λ q.
      ap (λ es. cap_of es q) (by_peer peers (slice_set caps number one))
      ∙ value_set cmp total entry (λ entry. entry.peer) (λ k i. refl) value says is_value peers caps peer number one
      there within q
      ∙ ap (λ es. if same_peer cmp peer q then says one else cap_of es q) (sym (by_peer peers caps)))

-- a peer comes to the end, if any does
pub peers_grown : {P : Type 0} (cmp : P → P → Ordering) (peers new : List P) (peer : P)
    → IsWithPeer cmp peers peer new → IsGrown peers new
peers_grown cmp peers new peer with =
    grown peers new (λ copy. same_peer cmp copy peer ≡ true) (number_of cmp peers peer) with
