-- The fair rate of a flow alone: the least of its caps.
use Rattle.fair_rates.proofs.Common.{◌≡◌, ℕ, ◌*◌, ◌<◌, ◌≤◌, List, [], ◌∷◌, map, Contains, Bool, Option, Some, None}
use Rattle.fair_rates.proofs.Common.{refl, sym, ap, subst, ◌∙◌, arith, mul-le-mul_right, option_map, slice_index}
use Rattle.fair_rates.proofs.Common.{unwrap_or, Ordering, All-nil, All-cons, All-map, All-weaker, All-contains, Side}
use Rattle.fair_rates.proofs.Common.{Uses, IsWithinCaps, HasBottleneck, IsFair, load, sides_under, Caps, Flow, rules}
use Rattle.fair_rates.proofs.Common.{common_steps}
use Rattle.fairness.specs.Sides.Alone.{least_cap_of}
use Rattle.fairness.specs.declared.bandwidth.FlowCaps.{FlowCaps}
use Rattle.fairness.proofs.Lists.Different.{in_one}
use Rattle.fairness.proofs.Lists.Members.{in_from_contains, contains_from_in, in_map}
use Rattle.fairness.proofs.Sides.Alone.{side_alone, sides_alone, caps_of, IsLeast, IsLeastOf, least_cap_is}

-- ---- what is fair

module _ (caps : List ℕ) (cap : ℕ) (is : IsLeastOf cap caps) (per : ℕ) (some : 0 < per) (parts : ℕ → ℕ)
    (has : parts 0 ≡ per * cap) where
  abbrev sides : List Side
  sides = map side_alone caps

  within : IsWithinCaps sides per parts
  within =
      All-map (λ side. load parts side ≤ side.cap * per) side_alone caps
      (All-weaker (λ other. cap ≤ other) (λ other. load parts (side_alone other) ≤ other * per)
      (λ other le. omega (arith, has, mul-le-mul_right per le)) caps is.least)

  user_is : (flow : ℕ) (side : Side) → Uses sides flow side → flow ≡ 0
  user_is flow side uses =
      let users : side.users ≡ 0 ∷ [] =
      All-contains (λ s. s.users ≡ 0 ∷ []) sides side (All-map (λ s. s.users ≡ 0 ∷ []) side_alone caps (λ k d h. refl))
      uses.listed in
      sym (in_one 0 flow (subst (λ xs. Contains xs flow) users uses.used))

  pub uses_least : Uses sides 0 (side_alone cap)
  uses_least = grind (arith, common_steps, contains_from_in, in_map, in_from_contains)

  bottleneck : HasBottleneck sides per parts 0
  bottleneck = search (rules, uses_least, All-cons, All-nil)

  pub fair_alone : IsFair sides per parts
  fair_alone = record {
    some_part = some;
    within = within;
    held = λ flow (side, uses). subst (HasBottleneck sides per parts) (sym (user_is flow side uses)) bottleneck;
  }

-- nothing limits a flow without caps
fair_without : (per : ℕ) → 0 < per → (parts : ℕ → ℕ) → IsFair [] per parts
fair_without per some parts = search (rules, within, All-nil, in_from_contains)

-- ---- under caps

-- so many times the least cap, and nothing where there is none
abbrev pub times_least : ℕ → Option ℕ → Option ℕ
times_least scale least = option_map (λ cap. scale * cap) least

module _ (scale : ℕ) (some : 0 < scale) where
  fair_by : (least : Option ℕ) (caps : List ℕ) → IsLeast least caps
      → IsFair (map side_alone caps) scale (slice_index (unwrap_or (times_least scale least) 0 ∷ []))
  fair_by None caps none = search (rules, fair_without)
  fair_by (Some cap) caps is = fair_alone caps cap is scale some (slice_index (scale * cap ∷ [])) refl

  module _ {P : Type 0} (cmp : P → P → Ordering) (caps : Caps P) (f : Flow P) (own : FlowCaps) (delivered : Bool)
      (egress : own.egress ≡ caps.egress f.origin) (ingress : own.ingress ≡ caps.ingress f.recipient)
      (link : own.link ≡ caps.link f.origin f.recipient) (arrives : delivered ≡ f.delivered) (parts : Option ℕ)
      (is : parts ≡ times_least scale (least_cap_of own delivered)) where
    here : parts ≡ times_least scale (least_cap_of own f.delivered)
    here = is ∙ ap (λ d. times_least scale (least_cap_of own d)) arrives

    sides_are : sides_under cmp caps (f ∷ []) ≡ map side_alone (caps_of own f.delivered)
    sides_are = sides_alone cmp caps f own egress ingress link

    -- the flow has its least cap
    pub parts_alone_fair : IsFair (sides_under cmp caps (f ∷ [])) scale (slice_index (unwrap_or parts 0 ∷ []))
    parts_alone_fair = search (rules, here, sides_are, fair_by, least_cap_is)
