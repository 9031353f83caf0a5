-- The sides of one flow, and its least cap.
use Rattle.fairness.proofs.Common.{◌≡◌, ℕ, ◌≤◌, inl, inr, List, [], ◌∷◌, ◌++◌, map, All, Contains, Bool, true, false}
use Rattle.fairness.proofs.Common.{cond, Option, Some, None, refl, sym, ap, subst, ◌∙◌, arith, Ordering, cases_lt}
use Rattle.fairness.proofs.Common.{append-nil, All-nil, All-cons, All-append, All-weaker, Contains-append_left}
use Rattle.fairness.proofs.Common.{Contains-append_right, Side, sides_under, Answered, Caps, Flow, sides_of, rules}
use Rattle.std.proofs.Common.{min}
use Rattle.std.specs.Option.{option_to_list}
use Rattle.std.proofs.Math.Nat.{min-eq_left, min-eq_right}
use Rattle.fairness.specs.Sides.Alone.{least_of, least_cap_of}
use Rattle.fairness.specs.declared.bandwidth.FlowCaps.{FlowCaps}

-- a side that the flow at the place 0 alone uses
abbrev pub side_alone : ℕ → Side
side_alone cap = record { cap = cap; users = 0 ∷ [] }

-- the caps that hold for a flow
abbrev pub caps_of : FlowCaps → Bool → List ℕ
caps_of caps delivered =
    (option_to_list caps.egress ++ option_to_list (cond delivered caps.ingress None)) ++ option_to_list caps.link

-- ---- the sides of one flow

module _ {P : Type 0} (cmp : P → P → Ordering) (caps : Caps P) (f : Flow P) (own : FlowCaps)
    (egress : own.egress ≡ caps.egress f.origin) (ingress : own.ingress ≡ caps.ingress f.recipient)
    (link : own.link ≡ caps.link f.origin f.recipient) where
  abbrev answered : Bool → Option ℕ → Option ℕ → Option ℕ → Answered P
  answered delivered e i l = record {
    flow = record { id = f.id; origin = f.origin; recipient = f.recipient; delivered = delivered };
    egress = e;
    ingress = cond delivered i None;
    link = l;
  }

  abbrev AreTheCaps : Bool → Option ℕ → Option ℕ → Option ℕ → Type 0
  AreTheCaps delivered e i l =
      sides_of cmp (answered delivered e i l ∷ [])
      ≡ map side_alone ((option_to_list e ++ option_to_list (cond delivered i None)) ++ option_to_list l)

  by_answers : (delivered : Bool) (e i l : Option ℕ) → AreTheCaps delivered e i l
  by_answers true None None None = refl
  by_answers true None None (Some l) = refl
  by_answers true None (Some i) None = refl
  by_answers true None (Some i) (Some l) = refl
  by_answers true (Some e) None None = refl
  by_answers true (Some e) None (Some l) = refl
  by_answers true (Some e) (Some i) None = refl
  by_answers true (Some e) (Some i) (Some l) = refl
  by_answers false None i None = refl
  by_answers false None i (Some l) = refl
  by_answers false (Some e) i None = refl
  by_answers false (Some e) i (Some l) = refl

  pub sides_alone : sides_under cmp caps (f ∷ []) ≡ map side_alone (caps_of own f.delivered)
  sides_alone = search (rules, by_answers)

-- ---- the least cap

-- the cap is one of the caps, and none is less
pub record IsLeastOf (cap : ℕ) (caps : List ℕ) : Type 0 where
  pub among : Contains caps cap
  pub least : All (λ other. cap ≤ other) caps

-- the least of the caps, and None where there is none
abbrev pub IsLeast : Option ℕ → List ℕ → Type 0
IsLeast None caps = caps ≡ []
IsLeast (Some cap) caps = IsLeastOf cap caps

least_one : (o : Option ℕ) → IsLeast o (option_to_list o)
least_one None = refl
least_one (Some cap) = search (rules, All-cons, All-nil)

module _ (a b : ℕ) (xs ys : List ℕ) (h : IsLeastOf a xs) (k : IsLeastOf b ys) where
  lesser_among : Contains (xs ++ ys) (min a b)
  lesser_among = elim (cases_lt a b) [
    | inl less ↦ subst (Contains (xs ++ ys)) (sym (min-eq_left (omega arith))) (Contains-append_left xs ys a h.among)
    | inr no_less ↦ subst (Contains (xs ++ ys)) (sym (min-eq_right no_less)) (Contains-append_right xs ys b k.among)
  ]

  lesser : IsLeastOf (min a b) (xs ++ ys)
  lesser = record {
    among = lesser_among;
    least =
        All-append (λ other. min a b ≤ other) xs ys
        (All-weaker (λ other. a ≤ other) (λ other. min a b ≤ other) (λ other le. omega arith) xs h.least)
        (All-weaker (λ other. b ≤ other) (λ other. min a b ≤ other) (λ other le. omega arith) ys k.least);
  }

least_append : (one other : Option ℕ) (xs ys : List ℕ) → IsLeast one xs → IsLeast other ys
    → IsLeast (least_of one other) (xs ++ ys)
least_append None None xs ys h k = ap (λ zs. zs ++ ys) h ∙ k
least_append None (Some b) xs ys h k = subst (λ zs. IsLeastOf b (zs ++ ys)) (sym h) k
least_append (Some a) None xs ys h k = search (rules, append-nil)
least_append (Some a) (Some b) xs ys h k = lesser a b xs ys h k

pub least_cap_is : (caps : FlowCaps) (delivered : Bool) → IsLeast (least_cap_of caps delivered) (caps_of caps delivered)
least_cap_is caps delivered = search (rules, least_append, least_one)
