-- Planned worlds that are the same up to equal peers: each is the same as itself, whichever stands first, and along a
-- chain.
use Rattle.link_simulation.proofs.Common.{arith, ◌≡◌, List, [], ◌∷◌, sym, ◌∙◌, true, AllZip, Ordering, IsTotalOrder}
use Rattle.link_simulation.proofs.Common.{same_peer, Message, Caps, CapsAlike, PairsAlike, SameMessage, RatedFlight}
use Rattle.link_simulation.proofs.Common.{Planned, IsSameRatedFlight, IsSamePlanned, peer_sym, zip_chain, zip-same}
use Rattle.link_simulation.specs.Simulation.Messages.{AnswerAlike}
use Rattle.link_simulation.proofs.Simulation.AlikeMessages.{same_itself as one_peer, message_itself}

-- ---- lists

pub zip_turned : {X Y : Type 0} (R : X → Y → Type 0) (S : Y → X → Type 0) → ((x : X) (y : Y) → R x y → S y x)
    → (xs : List X) (ys : List Y) → AllZip R xs ys → AllZip S ys xs
zip_turned R S turn [] [] all = tt
zip_turned R S turn [] (y ∷ ys) all = absurd all
zip_turned R S turn (x ∷ xs) [] all = absurd all
zip_turned R S turn (x ∷ xs) (y ∷ ys) all = (turn x y all.0, zip_turned R S turn xs ys all.1)

module _ {P : Type 0} (cmp : P → P → Ordering) (order : IsTotalOrder cmp) where
  -- ---- peers and messages

  pub peer_turned : (p q : P) → same_peer cmp p q ≡ true → same_peer cmp q p ≡ true
  peer_turned p q e = peer_sym cmp order q p ∙ e

  pub message_turned : (m n : Message P) → SameMessage cmp m n → SameMessage cmp n m
  message_turned m n e = grind arith

  pub message_chain : (m n k : Message P) → SameMessage cmp m n → SameMessage cmp n k → SameMessage cmp m k
  message_chain m n k e f = grind arith

  -- ---- caps and last arrivals

  answers_chain : {X : Type 0} (f g h : P → X) → AnswerAlike cmp f g → AnswerAlike cmp g h → AnswerAlike cmp f h
  answers_chain f g h first second p q e = first p q e ∙ second q q (one_peer cmp order q)

  pub pairs_turned : {X : Type 0} (f g : P → P → X) → PairsAlike cmp f g → PairsAlike cmp g f
  pairs_turned f g alike p q r s e h = sym (alike q p s r (peer_turned p q e) (peer_turned r s h))

  pub pairs_chain : {X : Type 0} (f g h : P → P → X) → PairsAlike cmp f g → PairsAlike cmp g h → PairsAlike cmp f h
  pairs_chain f g h first second p q r s e k =
      first p q r s e k ∙ second q q s s (one_peer cmp order q) (one_peer cmp order s)

  pub caps_turned : (caps others : Caps P) → CapsAlike cmp caps others → CapsAlike cmp others caps
  caps_turned caps others alike = grind arith

  pub caps_chain : (caps others last : Caps P) → CapsAlike cmp caps others → CapsAlike cmp others last
      → CapsAlike cmp caps last
  caps_chain caps others last first second = search (answers_chain, pairs_chain)

  -- ---- what is in flight

  paced_itself : (f : RatedFlight P) → IsSameRatedFlight cmp f f
  paced_itself f = grind (arith, message_itself)

  pub paced_turned : (f g : RatedFlight P) → IsSameRatedFlight cmp f g → IsSameRatedFlight cmp g f
  paced_turned f g e = grind arith

  paced_chain : (f g h : RatedFlight P) → IsSameRatedFlight cmp f g → IsSameRatedFlight cmp g h
      → IsSameRatedFlight cmp f h
  paced_chain f g h d e = grind arith

  -- ---- planned worlds

  pub same_itself : (p : Planned P) → CapsAlike cmp p.caps p.caps → PairsAlike cmp p.last_arrival p.last_arrival
      → IsSamePlanned cmp p p
  same_itself p caps arrivals = grind (arith, zip-same, paced_itself, message_itself)

  pub same_turned : (p q : Planned P) → IsSamePlanned cmp p q → IsSamePlanned cmp q p
  same_turned p q same = grind (arith, caps_turned, zip_turned, paced_turned, message_turned, pairs_turned)

  pub same_chain : (p q r : Planned P) → IsSamePlanned cmp p q → IsSamePlanned cmp q r → IsSamePlanned cmp p r
  same_chain p q r first second =
      grind (
        arith,
        (caps_chain p.caps q.caps r.caps first.caps second.caps),
        (zip_chain (IsSameRatedFlight cmp)
            (IsSameRatedFlight cmp) (IsSameRatedFlight cmp) paced_chain p.sending q.sending r.sending first.sending
            second.sending),
        (zip_chain (SameMessage cmp) (SameMessage cmp) (SameMessage cmp) message_chain p.waiting
            q.waiting r.waiting first.waiting second.waiting),
        (pairs_chain p.last_arrival q.last_arrival r.last_arrival first.last_arrival second.last_arrival),
      )
