-- The fair rates of messages: which messages are limited, and that the rates are one.
use Rattle.link_simulation.proofs.Common.{◌≡◌, ℕ, zero, suc, ◌+◌, ◌*◌, List, [], ◌∷◌, ◌++◌, length, Bool, true, false}
use Rattle.link_simulation.proofs.Common.{not, Option, Some, None, Contains, refl, sym, ap, ◌∙◌, subst, arith, ◌&&◌}
use Rattle.link_simulation.proofs.Common.{◌||◌, slice_get, is_none, if◌then◌else◌, flat_map, Ordering}
use Rattle.link_simulation.proofs.Common.{Contains-append_left, Contains-append_right, Side, same_peer, Message, Caps}
use Rattle.link_simulation.proofs.Common.{is_delivered, Parts, sides_for, capped_sides, is_unlimited, rates_from}
use Rattle.link_simulation.proofs.Common.{AreFair, egress_side, ingress_side, link_side, places_from, by_bool}
use Rattle.fairness.specs.Fairness.Fair.{IsLimited}
use Rattle.fairness.proofs.Fairness.OneAllocation.{same_amounts}
use Rattle.fairness.proofs.Lists.Places.{place_here}

-- ---- lists

pub in_flat_map : {X Y : Type 0} (f : X → List Y) (xs : List X) (i : ℕ) (x : X) (y : Y) → slice_get xs i ≡ Some x
    → Contains (f x) y → Contains (flat_map f xs) y
in_flat_map f [] i x y e has = cc
in_flat_map {X} {Y} f (z ∷ zs) zero x y e has =
    let same : x ≡ z = cc in Contains-append_left (f z) (flat_map f zs) y (subst (λ (v : X). Contains (f v) y) same has)
in_flat_map f (z ∷ zs) (suc i) x y e has = Contains-append_right (f z) (flat_map f zs) y (in_flat_map f zs i x y e has)

-- rates that agree, in parts of d and of e
abbrev pub Match : Parts → Parts → ℕ → ℕ → Type 0
Match xs ys d e =
    (i a : ℕ) → slice_get xs i ≡ Some (Some a) → (b : ℕ) × (slice_get ys i ≡ Some (Some b)) × (a * e ≡ b * d)

module _ {P : Type 0} (cmp : P → P → Ordering) where
  -- ---- one rate for each message

  pub rates_length : (caps : Caps P) (parts : ℕ → ℕ) (place : ℕ) (ms : List (Message P))
      → length (rates_from cmp caps parts place ms) ≡ length ms
  rates_length caps parts place [] = refl
  rates_length caps parts place (m ∷ ms) = ap suc (rates_length caps parts (place + 1) ms)

  pub one_each : (caps : Caps P) (ms : List (Message P)) (per : ℕ) (rates : Parts) → AreFair cmp caps ms per rates
      → length rates ≡ length ms
  one_each caps ms per rates fair = ap length fair.rated ∙ rates_length caps fair.parts 0 ms

  -- where each message uses a capped side, none is without a rate
  rates_limited : (caps : Caps P) (parts : ℕ → ℕ) (place : ℕ) (ms : List (Message P))
      → ((i : ℕ) (m : Message P) → slice_get ms i ≡ Some m → is_unlimited cmp caps m ≡ false)
      → (i : ℕ) → slice_get (rates_from cmp caps parts place ms) i ≡ Some None → ⊥
  rates_limited caps parts place [] limited i is = cc
  rates_limited caps parts place (m ∷ ms) limited zero is = by_test (is_unlimited cmp caps m) (limited 0 m refl) is
    where
      by_test : (b : Bool) → b ≡ false → Some (if b then None else Some (parts place)) ≡ Some None → ⊥
      by_test true e is = cc
      by_test false e is = cc
  rates_limited caps parts place (m ∷ ms) limited (suc i) is =
      rates_limited caps parts (place + 1) ms (λ k. limited (suc k)) i is

  pub all_rated : (caps : Caps P) (ms : List (Message P)) (per : ℕ) (rates : Parts) → AreFair cmp caps ms per rates
      → ((i : ℕ) (m : Message P) → slice_get ms i ≡ Some m → is_unlimited cmp caps m ≡ false) → (i : ℕ)
      → slice_get rates i ≡ Some None → ⊥
  all_rated caps ms per rates fair limited i is = grind (arith, rates_limited)

  -- rates of one list agree where those of the limited messages do
  match_from : (caps : Caps P) (a b : ℕ → ℕ) (d e place : ℕ) (ms : List (Message P))
      → ((i : ℕ) (m : Message P) → slice_get ms i ≡ Some m → is_unlimited cmp caps m ≡ false
      → a (place + i) * e ≡ b (place + i) * d)
      → Match (rates_from cmp caps a place ms) (rates_from cmp caps b place ms) d e
  match_from caps a b d e place [] same i x is = cc
  match_from caps a b d e place (m ∷ ms) same zero x is =
      by_bool (is_unlimited cmp caps m) (λ h. rw h cc) (λ h. rw h (
      let this : a place ≡ x = cc in (
        b place,
        refl,
        ap (λ n. n * e) (sym this) ∙ subst (λ (n : ℕ). a n * e ≡ b n * d) (omega arith) (same 0 m refl h),
      )))
  match_from caps a b d e place (m ∷ ms) same (suc i) x is =
      match_from caps a b d e (place + 1) ms
      (λ k n at h. subst (λ (j : ℕ). a j * e ≡ b j * d) (omega arith) (same (suc k) n at h)) i x is

  -- ---- who uses a capped side

  module _ (itself : (p : P) → same_peer cmp p p ≡ true) where
    one_in : (side : Side) → Contains (side ∷ []) side
    one_in side = (0, omega arith, refl)

    abbrev HasSide : Caps P → List (Message P) → ℕ → Message P → Type 0
    HasSide caps ms i m = (side : Side) × Contains (sides_for cmp caps ms m) side × Contains side.users i

    abbrev by_egress : Message P → Message P → Bool
    by_egress m n = same_peer cmp m.origin n.origin

    abbrev by_ingress : Message P → Message P → Bool
    by_ingress m n = is_delivered cmp n && same_peer cmp m.recipient n.recipient

    abbrev by_link : Message P → Message P → Bool
    by_link m n = same_peer cmp m.origin n.origin && same_peer cmp m.recipient n.recipient

    has_side : (caps : Caps P) (ms : List (Message P)) (i : ℕ) (m : Message P) → slice_get ms i ≡ Some m
        → is_unlimited cmp caps m ≡ false → HasSide caps ms i m
    has_side caps ms i m at e = by_caps _ _ _ _ refl refl refl refl e
      where
        by_caps : (c : Option ℕ) (d : Bool) (k l : Option ℕ) → caps.egress m.origin ≡ c → is_delivered cmp m ≡ d
            → caps.ingress m.recipient ≡ k → caps.link m.origin m.recipient ≡ l
            → (is_none c && (not d || is_none k) && is_none l) ≡ false → HasSide caps ms i m
        by_caps (Some c) d k l out del into between e =
            let side : Side = record { cap = c; users = places_from 0 (by_egress m) ms } in (
              side,
              grind (arith, Contains-append_left, one_in),
              place_here (by_egress m) ms i m at (itself m.origin),
            )
        by_caps None true (Some c) l out del into between e =
            let side : Side = record { cap = c; users = places_from 0 (by_ingress m) ms } in (
              side,
              grind (arith, Contains-append_left, Contains-append_right, one_in),
              place_here (by_ingress m) ms i m at (rw (del, itself m.recipient) refl),
            )
        by_caps None d k (Some c) out del into between e =
            let side : Side = record { cap = c; users = places_from 0 (by_link m) ms } in (
              side,
              Contains-append_right (egress_side cmp caps ms m ++ ingress_side cmp caps ms m) (link_side cmp caps ms m)
                  side (rw between (one_in side)),
              place_here (by_link m) ms i m at (rw (itself m.origin, itself m.recipient) refl),
            )
        by_caps None false k None out del into between e = cc
        by_caps None true None None out del into between e = cc

    -- a message that uses a capped side is limited
    pub limited_at : (caps : Caps P) (ms : List (Message P)) (i : ℕ) (m : Message P) → slice_get ms i ≡ Some m
        → is_unlimited cmp caps m ≡ false → IsLimited (capped_sides cmp caps ms) i
    limited_at caps ms i m at e =
        let has : HasSide caps ms i m = has_side caps ms i m at e in
        (has.0, record { listed = in_flat_map (sides_for cmp caps ms) ms i m has.0 at has.1; used = has.2 })

    -- the fair rates are one
    pub rates_match : (caps : Caps P) (ms : List (Message P)) (d e : ℕ) (xs ys : Parts) → AreFair cmp caps ms d xs
        → AreFair cmp caps ms e ys → Match xs ys d e
    rates_match caps ms d e xs ys f g =
        let made = match_from caps f.parts g.parts d e 0 ms (λ i m at h. subst
        (λ (n : ℕ). f.parts n * e ≡ g.parts n * d) (omega arith)
        (same_amounts (capped_sides cmp caps ms) d e f.parts g.parts f.fair g.fair i (limited_at caps ms i m at h))) in
        subst (λ (rs : Parts). Match rs ys d e) (sym f.rated)
        (subst (λ (rs : Parts). Match (rates_from cmp caps f.parts 0 ms) rs d e) (sym g.rated) made)
