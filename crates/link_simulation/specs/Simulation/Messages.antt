-- Messages, the ordered pairs that they are of, and the caps that limit them.
use Rattle.std.specs.Prelude.{◌≡◌, ⊤, ℕ, List, [], ◌∷◌, Bool, true, false, not, ◌&&◌}
use Rattle.std.specs.List.{list_any}
use Rattle.std.specs.declared.cmp.Ordering.{Ordering}
use Rattle.std.specs.Ordering.{is_lt, ordering_then}
pub use Rattle.fairness.specs.Sides.Caps.{Caps, no_caps, with_cap, with_link, AnswerAlike, PairsAlike, CapsAlike}
use Rattle.fairness.specs.Sides.Subjects.{same_peer}

-- what one peer sends to another; its latency is in nanoseconds
pub record Message (P : Type 0) : Type 0 where
  pub origin : P
  pub recipient : P
  pub channel : ℕ
  pub bytes : List ℕ
  pub latency : ℕ
  pub should_deliver : Bool

module _ {P : Type 0} (cmp : P → P → Ordering) where
  -- whether two messages are of one ordered pair
  abbrev pub same_pair : Message P → Message P → Bool
  same_pair m n = same_peer cmp m.origin n.origin && same_peer cmp m.recipient n.recipient

  -- at most one message for each pair
  abbrev pub OneForEachPair : List (Message P) → Type 0
  OneForEachPair [] = ⊤
  OneForEachPair (m ∷ ms) = (list_any (same_pair m) ms ≡ false) × OneForEachPair ms

  -- whether the pair of the one comes before that of the other: by origin, and then by recipient
  abbrev pub pair_before : Message P → Message P → Bool
  pair_before m n = is_lt (ordering_then (cmp m.origin n.origin) (cmp m.recipient n.recipient))

  -- under limits, whether a message is delivered: a message to oneself is dropped
  abbrev pub is_delivered : Message P → Bool
  is_delivered m = m.should_deliver && not (same_peer cmp m.origin m.recipient)

  -- equal peers, and all else the same
  pub record SameMessage (m n : Message P) : Type 0 where
    pub origin : same_peer cmp m.origin n.origin ≡ true
    pub recipient : same_peer cmp m.recipient n.recipient ≡ true
    pub channel : m.channel ≡ n.channel
    pub bytes : m.bytes ≡ n.bytes
    pub latency : m.latency ≡ n.latency
    pub should_deliver : m.should_deliver ≡ n.should_deliver
