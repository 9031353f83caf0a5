-- Caps by peer and by ordered pair.
use Rattle.std.specs.Prelude.{◌≡◌, ℕ, ◌*◌, true, ◌&&◌, if◌then◌else◌, Option, None, option_map}
use Rattle.std.specs.declared.cmp.Ordering.{Ordering}
use Rattle.fairness.specs.Sides.Subjects.{same_peer}

-- the caps in bytes a second: on all that a peer sends, on all that a peer receives, and on what goes from one peer
-- to another
pub record Caps (P : Type 0) : Type 0 where
  pub egress : P → Option ℕ
  pub ingress : P → Option ℕ
  pub link : P → P → Option ℕ

-- each cap so many times
abbrev pub times_caps : {P : Type 0} → ℕ → Caps P → Caps P
times_caps scale caps = record {
  egress = λ p. option_map (λ cap. cap * scale) (caps.egress p);
  ingress = λ p. option_map (λ cap. cap * scale) (caps.ingress p);
  link = λ p q. option_map (λ cap. cap * scale) (caps.link p q);
}

-- nothing is capped
abbrev pub no_caps : {P : Type 0} → Caps P
no_caps = record { egress = λ p. None; ingress = λ p. None; link = λ p q. None }

module _ {P : Type 0} (cmp : P → P → Ordering) where
  -- the caps of a peer, with a new one
  abbrev pub with_cap : (P → Option ℕ) → P → Option ℕ → P → Option ℕ
  with_cap caps peer cap q = if same_peer cmp peer q then cap else caps q

  -- the caps of ordered pairs, with a new one
  abbrev pub with_link : (P → P → Option ℕ) → P → P → Option ℕ → P → P → Option ℕ
  with_link links origin recipient cap p q =
      if same_peer cmp origin p && same_peer cmp recipient q then cap else links p q

  -- two look-ups by peer that answer alike for equal peers
  abbrev pub AnswerAlike : {X : Type 0} → (P → X) → (P → X) → Type 0
  AnswerAlike f g = (p q : P) → same_peer cmp p q ≡ true → f p ≡ g q

  -- two look-ups by pair that answer alike for equal pairs
  abbrev pub PairsAlike : {X : Type 0} → (P → P → X) → (P → P → X) → Type 0
  PairsAlike f g = (p q r s : P) → same_peer cmp p q ≡ true → same_peer cmp r s ≡ true → f p r ≡ g q s

  -- equal peers and equal pairs have the same caps
  pub record CapsAlike (caps others : Caps P) : Type 0 where
    pub egress : AnswerAlike caps.egress others.egress
    pub ingress : AnswerAlike caps.ingress others.ingress
    pub link : PairsAlike caps.link others.link
