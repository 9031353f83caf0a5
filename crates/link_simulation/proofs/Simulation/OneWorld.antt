-- A nanosecond leads to one world, whatever denominator its rates are given by.
use Rattle.link_simulation.proofs.Common.{◌≡◌, ℕ, suc, ◌*◌, ◌<◌, List, [], ◌∷◌, length, Option, Some, None, refl, sym}
use Rattle.link_simulation.proofs.Common.{ap, ◌∙◌, arith, true, Ordering, same_peer, Amount, drained, Flight, World}
use Rattle.link_simulation.proofs.Common.{flows, Parts, drained_by, rate_of, ArePositive, Drains, drain_each}
use Rattle.fairness.specs.Numbers.LowestTerms.{reduced_same}
use Rattle.link_simulation.proofs.Simulation.Rates.{Match, one_each, rates_match}

module _ {P : Type 0} (cmp : P → P → Ordering) where
  at_same : (x y : Option ℕ) (d e n : ℕ) (left : Amount) → 0 < left.den → 0 < d → 0 < e
      → ((a : ℕ) → x ≡ Some a → (b : ℕ) × (y ≡ Some b) × (a * e ≡ b * d))
      → ((b : ℕ) → y ≡ Some b → (a : ℕ) × (x ≡ Some a) × (b * d ≡ a * e))
      → drained_by (rate_of d x) n left ≡ drained_by (rate_of e y) n left
  at_same None None d e n left h i j to from = refl
  at_same None (Some b) d e n left h i j to from =
      let g : (a : ℕ) × (None ≡ Some a) × (b * d ≡ a * e) = from b refl in cc
  at_same (Some a) None d e n left h i j to from = let g : (b : ℕ) × (None ≡ Some b) × (a * e ≡ b * d) = to a refl in cc
  at_same (Some a) (Some b) d e n left h i j to from =
      let g : (c : ℕ) × (Some b ≡ Some c) × (a * e ≡ c * d) = to a refl in
      let same : g.0 ≡ b = cc in
      ap (λ (rate : Amount). drained left rate n) (reduced_same a d b e i j (g.2 ∙ ap (λ c. c * d) same))

  drain_same : (xs ys : Parts) (d e n : ℕ) (fs : List (Flight P)) → ArePositive fs → 0 < d → 0 < e
      → length xs ≡ length ys → Match xs ys d e → Match ys xs e d → drain_each d xs n fs ≡ drain_each e ys n fs
  drain_same xs ys d e n [] pos i j same to from = grind arith
  drain_same [] [] d e n (f ∷ fs) pos i j same to from = refl
  drain_same [] (y ∷ ys) d e n (f ∷ fs) pos i j same to from = absurd (omega arith)
  drain_same (x ∷ xs) [] d e n (f ∷ fs) pos i j same to from = absurd (omega arith)
  drain_same (x ∷ xs) (y ∷ ys) d e n (f ∷ fs) pos i j same to from =
      rw (
        at_same x y d e n f.left pos.0 i j (λ a is. head x y a e d (to 0 a (ap Some is)))
            (λ b is. head y x b d e (from 0 b (ap Some is))),
        drain_same xs ys d e n fs pos.1 i j (omega arith) (λ k. to (suc k)) (λ k. from (suc k)),
      )
      refl
    where
      head : (x z : Option ℕ) (a p q : ℕ) → (b : ℕ) × (Some z ≡ Some (Some b)) × (a * p ≡ b * q)
          → (b : ℕ) × (z ≡ Some b) × (a * p ≡ b * q)
      head x z a p q (b, is, e) = (b, cc, e)

  -- a nanosecond leads to one world
  pub one_world : ((p : P) → same_peer cmp p p ≡ true) → (w v u : World P) → ArePositive w.sending → Drains cmp w v
      → Drains cmp w u → v ≡ u
  one_world itself w v u pos f g =
      grind (
        arith,
        (drain_same f.rates g.rates f.per g.per 1 w.sending pos f.fair.fair.some_part g.fair.fair.some_part
            (one_each cmp w.caps (flows w) f.per f.rates f.fair ∙ sym (one_each cmp w.caps (flows w) g.per g.rates g.fair))
            (rates_match cmp itself w.caps (flows w) f.per g.per f.rates g.rates f.fair g.fair)
            (rates_match cmp itself w.caps (flows w) g.per f.per g.rates f.rates g.fair f.fair)),
      )
