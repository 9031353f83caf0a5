-- Lists of messages that are the same up to equal peers have the same sides, and so the same fair rates.
use Rattle.link_simulation.proofs.Common.{peer_sym, arith, ◌+◌, ◌≡◌, ℕ, List, [], ◌∷◌, Bool, true}
use Rattle.link_simulation.proofs.Common.{Option, Some, None, refl, ap, if◌then◌else◌, list_any, flat_map, AllZip}
use Rattle.link_simulation.proofs.Common.{Ordering, is_eq, IsTotalOrder, same_peer, Message, SameMessage, is_delivered}
use Rattle.link_simulation.proofs.Common.{same_pair, Caps, CapsAlike, AreFair, Parts, capped_sides, is_unlimited}
use Rattle.link_simulation.proofs.Common.{sides_for, rates_from, egress_side, ingress_side, link_side, places_from}
use Rattle.link_simulation.proofs.Simulation.Queue.{peer_like, both_alike}
use Rattle.std.proofs.lemmas.Cmp.{tied_itself}
use Rattle.link_simulation.specs.Simulation.Rates.{capped_side}
use Rattle.fairness.proofs.Lists.Places.{places_alike}

module _ {P : Type 0} (cmp : P → P → Ordering) (order : IsTotalOrder cmp) where
  pub same_itself : (p : P) → same_peer cmp p p ≡ true
  same_itself p = ap is_eq (tied_itself order p)

  pub pair_itself : (m : Message P) → same_pair cmp m m ≡ true
  pair_itself m = rw (same_itself m.origin, same_itself m.recipient) refl

  pub peers_alike : (p q r s : P) → same_peer cmp p q ≡ true → same_peer cmp r s ≡ true
      → same_peer cmp p r ≡ same_peer cmp q s
  peers_alike p q r s e f = grind (arith, peer_like, peer_sym)

  pub pairs_alike : (m n k l : Message P) → SameMessage cmp m n → SameMessage cmp k l
      → same_pair cmp m k ≡ same_pair cmp n l
  pairs_alike m n k l f g = grind (arith, both_alike, peers_alike)

  pub delivered_alike : (m n : Message P) → SameMessage cmp m n → is_delivered cmp m ≡ is_delivered cmp n
  delivered_alike m n e = grind (arith, both_alike, peers_alike)

  pub message_itself : (m : Message P) → SameMessage cmp m m
  message_itself m = grind arith

  pub any_alike : {X Y : Type 0} (R : X → Y → Type 0) (f : X → Bool) (g : Y → Bool)
      → ((x : X) (y : Y) → R x y → f x ≡ g y) → (xs : List X) (ys : List Y) → AllZip R xs ys
      → list_any f xs ≡ list_any g ys
  any_alike R f g same [] [] h = refl
  any_alike R f g same [] (y ∷ ys) h = absurd h
  any_alike R f g same (x ∷ xs) [] h = absurd h
  any_alike R f g same (x ∷ xs) (y ∷ ys) h = rw (same x y h.0, any_alike R f g same xs ys h.1) refl

  side_alike : (c d : Option ℕ) (u v : Message P → Bool) (ms ns : List (Message P)) → c ≡ d
      → places_from 0 u ms ≡ places_from 0 v ns → capped_side cmp c u ms ≡ capped_side cmp d v ns
  side_alike None None u v ms ns e f = refl
  side_alike None (Some d) u v ms ns e f = cc
  side_alike (Some c) None u v ms ns e f = cc
  side_alike (Some c) (Some d) u v ms ns e f = let same : c ≡ d = cc in rw (same, f) refl

  if_alike : {X : Type 0} (a b : Bool) (x y z : X) → a ≡ b → x ≡ y → (if a then x else z) ≡ (if b then y else z)
  if_alike a b x y z e f = rw (e, f) refl

  module _ (caps others : Caps P) (same : CapsAlike cmp caps others) where
    egress_alike : (m n : Message P) (ms ns : List (Message P)) → SameMessage cmp m n → AllZip (SameMessage cmp) ms ns
        → egress_side cmp caps ms m ≡ egress_side cmp others ns n
    egress_alike m n ms ns e all = grind (arith, side_alike, places_alike, peers_alike)

    ingress_alike : (m n : Message P) (ms ns : List (Message P)) → SameMessage cmp m n → AllZip (SameMessage cmp) ms ns
        → ingress_side cmp caps ms m ≡ ingress_side cmp others ns n
    ingress_alike m n ms ns e all =
        grind (arith, side_alike, if_alike, delivered_alike, places_alike, both_alike, peers_alike)

    link_alike : (m n : Message P) (ms ns : List (Message P)) → SameMessage cmp m n → AllZip (SameMessage cmp) ms ns
        → link_side cmp caps ms m ≡ link_side cmp others ns n
    link_alike m n ms ns e all = grind (arith, side_alike, places_alike, pairs_alike)

    sides_for_alike : (ms ns ks ls : List (Message P)) → AllZip (SameMessage cmp) ms ns → AllZip (SameMessage cmp) ks ls
        → flat_map (sides_for cmp caps ms) ks ≡ flat_map (sides_for cmp others ns) ls
    sides_for_alike ms ns [] [] all some = refl
    sides_for_alike ms ns [] (l ∷ ls) all some = absurd some
    sides_for_alike ms ns (k ∷ ks) [] all some = absurd some
    sides_for_alike ms ns (k ∷ ks) (l ∷ ls) all some =
        grind (arith, egress_alike, ingress_alike, link_alike, (sides_for_alike ms ns ks ls all))

    -- the same sides
    pub sides_alike : (ms ns : List (Message P)) → AllZip (SameMessage cmp) ms ns
        → capped_sides cmp caps ms ≡ capped_sides cmp others ns
    sides_alike ms ns all = sides_for_alike ms ns ms ns all all

    pub unlimited_alike : (m n : Message P) → SameMessage cmp m n → is_unlimited cmp caps m ≡ is_unlimited cmp others n
    unlimited_alike m n e = grind (arith, delivered_alike)

    rates_alike : (parts : ℕ → ℕ) (place : ℕ) (ms ns : List (Message P)) → AllZip (SameMessage cmp) ms ns
        → rates_from cmp caps parts place ms ≡ rates_from cmp others parts place ns
    rates_alike parts place [] [] all = refl
    rates_alike parts place [] (n ∷ ns) all = absurd all
    rates_alike parts place (m ∷ ms) [] all = absurd all
    rates_alike parts place (m ∷ ms) (n ∷ ns) all =
        rw (unlimited_alike m n all.0, rates_alike parts (place + 1) ms ns all.1) refl

    -- and so the same fair rates
    pub fair_alike : (ms ns : List (Message P)) (per : ℕ) (rates : Parts) → AllZip (SameMessage cmp) ms ns
        → AreFair cmp caps ms per rates → AreFair cmp others ns per rates
    fair_alike ms ns per rates all fair = grind (arith, sides_alike, rates_alike)
