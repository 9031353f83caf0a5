-- Fairness can be decided: where it is known that rates are fair, each flow's bottleneck can be found.
use Rattle.fairness.proofs.Common.{refl, ◌≤◌, ◌≡◌, ℕ, ◌*◌, Bool, true, ◌&&◌, List, sym, ◌∙◌, subst, inl, inr, list_all, list_any}
use Rattle.fairness.proofs.Common.{and_from, eqb-true, eq-eqb, false≢true, All-contains, Side, load, HasBottleneck}
use Rattle.fairness.proofs.Common.{IsFair}
use Rattle.std.specs.Prelude.{nat_le}
use Rattle.std.proofs.Math.Dec.{eqb}
use Rattle.std.proofs.Math.Logic.{∥∥₁_elim}
use Rattle.std.proofs.Props.{props}
use Rattle.std.proofs.lemmas.Bool.{leb-true, le-leb}
use Rattle.fairness.proofs.Lists.Booleans.{first_of_both, second_of_both}
use Rattle.fairness.proofs.Lists.Members.{In, in_from_contains, contains_from_in, some_or_none, any_passes, any_fails}
use Rattle.fairness.proofs.Lists.Members.{all_pass, all_passed}
use Rattle.fairness.proofs.Lists.SumOrder.{All-from_contains}

user_there : (users : List ℕ) (flow : ℕ) → list_any (λ user. eqb user flow) users ≡ true → In users flow
user_there users flow h = elim (some_or_none (λ user. eqb user flow) users) [
  | inl (user, among, is) ↦ subst (In users) (eqb-true user flow is) among
  | inr none ↦ absurd (false≢true (sym (any_fails (λ user. eqb user flow) users none) ∙ h))
]

module _ (sides : List Side) (per : ℕ) (parts : ℕ → ℕ) where
  -- whether the side is a bottleneck of the flow: the flow uses it, it is full, and no user has more
  abbrev is_used_by : ℕ → Side → Bool
  is_used_by flow side = list_any (λ user. eqb user flow) side.users

  abbrev is_full : Side → Bool
  is_full side = eqb (load parts side) (side.cap * per)

  abbrev is_greatest : ℕ → Side → Bool
  is_greatest flow side = list_all (λ other. nat_le (parts other) (parts flow)) side.users

  abbrev is_bottleneck : ℕ → Side → Bool
  is_bottleneck flow side = is_used_by flow side && (is_full side && is_greatest flow side)

  passes : (flow : ℕ) (b : HasBottleneck sides per parts flow) → is_bottleneck flow b.side ≡ true
  passes flow b =
      let used = any_passes (λ user. eqb user flow) b.side.users flow (in_from_contains b.side.users flow b.uses.used)
      (eq-eqb flow flow refl) in
      let full : is_full b.side ≡ true = eq-eqb (load parts b.side) (b.side.cap * per) b.full in
      let greatest = all_passed (λ other. nat_le (parts other) (parts flow)) b.side.users
      (λ other among. le-leb (parts other) (parts flow) (All-contains (λ other. parts other ≤ parts flow) b.side.users
      other b.greatest (contains_from_in b.side.users other among))) in
      and_from (is_used_by flow b.side) (is_full b.side && is_greatest flow b.side) used
      (and_from (is_full b.side) (is_greatest flow b.side) full greatest)

  found : (flow : ℕ) (side : Side) → In sides side → is_bottleneck flow side ≡ true → HasBottleneck sides per parts flow
  found flow side among h =
      let rest = second_of_both (is_used_by flow side) (is_full side && is_greatest flow side) h in
      let used =
      user_there side.users flow (first_of_both (is_used_by flow side) (is_full side && is_greatest flow side) h) in
      record {
        side = side;
        uses = record { listed = contains_from_in sides side among; used = contains_from_in side.users flow used };
        full = eqb-true (load parts side) (side.cap * per) (first_of_both (is_full side) (is_greatest flow side) rest);
        greatest =
            All-from_contains (λ other. parts other ≤ parts flow) side.users
            (λ other has. leb-true (parts other) (parts flow)
            (all_pass (λ other. nat_le (parts other) (parts flow)) side.users
            (second_of_both (is_full side) (is_greatest flow side) rest) other
            (in_from_contains side.users other has)));
      }

  -- rates that are known to be fair are fair
  pub fair_if_so : ∥ IsFair sides per parts ∥₁ → IsFair sides per parts
  fair_if_so so = record {
    some_part = ∥∥₁_elim so (hlevel props) (λ f. f.some_part);
    within = ∥∥₁_elim so (hlevel props) (λ f. f.within);
    held = λ flow limited. elim (some_or_none (is_bottleneck flow) sides) [
      | inl (side, among, is) ↦ found flow side among is
      | inr none ↦ absurd
          (∥∥₁_elim so (hlevel props) (λ f. let b = f.held flow limited in
          false≢true (sym (none b.side (in_from_contains sides b.side b.uses.listed)) ∙ passes flow b)))
    ];
  }
