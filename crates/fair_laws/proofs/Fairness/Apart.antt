-- A part of the flows that shares no side with the rest, by places.
use Rattle.fair_laws.proofs.Common.{◌≡◌, ℕ, zero, suc, ◌+◌, ◌*◌, ◌≤◌, ◌⊎◌, inl, inr, Bool, true, false, cond, List}
use Rattle.fair_laws.proofs.Common.{[], ◌∷◌, Some, All, length, map, take, get_or, sum_by, refl, sym, ap, ◌∙◌, subst}
use Rattle.fair_laws.proofs.Common.{arith, slice_get, list_any, false≢true, All-contains, sum_by-cons, Rate}
use Rattle.fair_laws.proofs.Common.{Unlimited, Finite, Side, load, Uses, IsLimited, IsFair, HasBottleneck, flagged}
use Rattle.fair_laws.proofs.Common.{IsRateOf, rules, common_steps}
use Rattle.std.proofs.lemmas.Option.{slice_get-get_or}
use Rattle.fairness.specs.Fairness.Part.{is_in, place_in, sides_in, SharesNoSide, FlowsApartAreFair}
use Rattle.fairness.proofs.Lists.Members.{In, in_map, from_map, in_left, in_right, in_either, in_from_contains}
use Rattle.fairness.proofs.Lists.Members.{contains_from_in, some_or_none, any_fails, any_passes}
use Rattle.fairness.proofs.Fairness.MaxMin.{rate_at}
use Rattle.fairness.proofs.Lists.SumOrder.{All-from_contains}

-- where the flow stands that has that place in the part
abbrev old : List Bool → ℕ → ℕ
old [] j = 0
old (true ∷ flags) zero = 0
old (true ∷ flags) (suc j) = suc (old flags j)
old (false ∷ flags) j = suc (old flags j)

pub place_in-suc : (flag : Bool) (flags : List Bool) (i : ℕ)
    → place_in (flag ∷ flags) (suc i) ≡ cond flag 1 0 + place_in flags i
place_in-suc flag flags i = sum_by-cons (λ b. cond b 1 0) flag (take i flags)

old_of_place : (flags : List Bool) (i : ℕ) → is_in flags i ≡ true → old flags (place_in flags i) ≡ i
old_of_place [] i e = cc
old_of_place (true ∷ flags) zero e = refl
old_of_place (false ∷ flags) zero e = cc
old_of_place (true ∷ flags) (suc i) e = grind (arith, common_steps, place_in-suc, old_of_place flags i e)
old_of_place (false ∷ flags) (suc i) e = grind (arith, common_steps, place_in-suc, old_of_place flags i e)

-- an element of the kept ones, and where it stood
record StoodAt {X : Type 0} (flags : List Bool) (xs : List X) (j : ℕ) (x : X) : Type 0 where
  at : slice_get xs (old flags j) ≡ Some x
  own : is_in flags (old flags j) ≡ true
  place : place_in flags (old flags j) ≡ j

stood_at : {X : Type 0} (flags : List Bool) (xs : List X) (j : ℕ) (x : X) → slice_get (flagged flags xs) j ≡ Some x
    → StoodAt flags xs j x
stood_at [] xs j x e = cc
stood_at (flag ∷ flags) [] j x e = cc
stood_at (true ∷ flags) (y ∷ xs) zero x e = record { at = e; own = refl; place = refl }
stood_at (true ∷ flags) (y ∷ xs) (suc j) x e = search (rules, place_in-suc, stood_at flags xs j x e)
stood_at (false ∷ flags) (y ∷ xs) j x e = search (rules, place_in-suc, stood_at flags xs j x e)

sum_by-map : (f : ℕ → ℕ) (g : ℕ → ℕ) (xs : List ℕ) → sum_by f (map g xs) ≡ sum_by (λ x. f (g x)) xs
sum_by-map f g [] = refl
sum_by-map f g (x ∷ xs) = search (rules, sum_by-cons, sum_by-map f g xs)

pub sum_by-agree : (f g : ℕ → ℕ) (xs : List ℕ) → ((x : ℕ) → In xs x → f x ≡ g x) → sum_by f xs ≡ sum_by g xs
sum_by-agree f g [] h = refl
sum_by-agree f g (x ∷ xs) h =
    omega
    (arith, sum_by-cons f x xs, sum_by-cons g x xs, h x (inl refl), sum_by-agree f g xs (λ y among. h y (inr among)))

module _ (flags : List Bool) where
  abbrev renumbered : Side → Side
  renumbered side = record { cap = side.cap; users = map (place_in flags) side.users }

  -- a side of the part
  record IsFrom (sides : List Side) (new : Side) : Type 0 where
    side : Side
    listed : In sides side
    user : ℕ
    used : In side.users user
    own : is_in flags user ≡ true
    is : new ≡ renumbered side

  some_user : (users : List ℕ) → list_any (is_in flags) users ≡ true → (u : ℕ) × In users u × (is_in flags u ≡ true)
  some_user users e = elim (some_or_none (is_in flags) users) [
    | inl some ↦ some
    | inr none ↦ let off = any_fails (is_in flags) users none in absurd (false≢true (sym off ∙ e))
  ]

  from_sides_in : (sides : List Side) (new : Side) → In (sides_in flags sides) new → IsFrom sides new
  from_sides_in [] new h = absurd h
  from_sides_in (s ∷ sides) new h = by_part (in_either _ _ new h) (λ g. from_sides_in sides new g)
    where
      here : (t : Bool) → list_any (is_in flags) s.users ≡ t → In (cond t (renumbered s ∷ []) []) new
          → IsFrom (s ∷ sides) new
      here true some (inl e) =
          let u = some_user s.users some in
          record { side = s; listed = inl refl; user = u.0; used = u.1; own = u.2; is = sym e }
      here true some (inr g) = absurd g
      here false none g = absurd g

      by_part : In (cond (list_any (is_in flags) s.users) (renumbered s ∷ []) []) new ⊎ In (sides_in flags sides) new
          → (In (sides_in flags sides) new → IsFrom sides new) → IsFrom (s ∷ sides) new
      by_part (inl g) ih = here _ refl g
      by_part (inr g) ih =
          let f = ih g in
          record { side = f.side; listed = inr f.listed; user = f.user; used = f.used; own = f.own; is = f.is }

  to_sides_in : (sides : List Side) (side : Side) (user : ℕ) → In sides side → In side.users user
      → is_in flags user ≡ true → In (sides_in flags sides) (renumbered side)
  to_sides_in [] side user h used own = absurd h
  to_sides_in (s ∷ sides) side user (inl e) used own = search (rules, any_passes, in_left)
  to_sides_in (s ∷ sides) side user (inr h) used own = search (rules, in_right, to_sides_in sides side user h used own)

  module _ (sides : List Side) (apart : SharesNoSide flags sides) where
    -- with one user of the part all users are
    all_own : (side : Side) (u : ℕ) → In sides side → In side.users u → is_in flags u ≡ true → (v : ℕ) → In side.users v
        → is_in flags v ≡ true
    all_own side u listed used own v among =
        elim (All-contains (λ s. All (λ w. is_in flags w ≡ true) s.users ⊎ All (λ w. is_in flags w ≡ false) s.users)
        sides side apart (contains_from_in sides side listed)) [
          | inl all ↦ All-contains (λ w. is_in flags w ≡ true) side.users v all (contains_from_in side.users v among)
          | inr none ↦ let off = All-contains (λ w. is_in flags w ≡ false) side.users u none
              (contains_from_in side.users u used) in
              absurd (false≢true (sym off ∙ own))
        ]

    load_kept : (parts : ℕ → ℕ) (side : Side) → ((v : ℕ) → In side.users v → is_in flags v ≡ true)
        → load (λ j. parts (old flags j)) (renumbered side) ≡ load parts side
    load_kept parts side own = search (rules, sum_by-map, sum_by-agree, old_of_place)

    -- a limited flow of the part, and where it stood
    record StoodLimited (j : ℕ) : Type 0 where
      u : ℕ
      limited : IsLimited sides u
      own : is_in flags u ≡ true
      place : place_in flags u ≡ j
      was : old flags j ≡ u

    stood_limited : (j : ℕ) → IsLimited (sides_in flags sides) j → StoodLimited j
    stood_limited j (t, uses) =
        let f = from_sides_in sides t (in_from_contains (sides_in flags sides) t uses.listed) in
        let r = from_map (place_in flags) f.side.users j (subst (λ (s : Side). In s.users j) f.is
        (in_from_contains t.users j uses.used)) in
        let own = all_own f.side f.user f.listed f.used f.own r.0 r.1 in
        record {
          u = r.0;
          limited = search (rules, contains_from_in);
          own = own;
          place = r.2;
          was = ap (old flags) (sym r.2) ∙ old_of_place flags r.0 own;
        }

    uses_renumbered : (side : Side) (u : ℕ) → is_in flags u ≡ true → Uses sides u side
        → Uses (sides_in flags sides) (place_in flags u) (renumbered side)
    uses_renumbered side u own uses =
        let used = in_from_contains side.users u uses.used in record {
          listed = contains_from_in _ _ (to_sides_in sides side u (in_from_contains sides side uses.listed) used own);
          used = contains_from_in _ _ (in_map _ side.users u used);
        }

    module _ (per : ℕ) (parts : ℕ → ℕ) where
      abbrev kept_parts : ℕ → ℕ
      kept_parts j = parts (old flags j)

      renumbered_bottleneck : (u : ℕ) → is_in flags u ≡ true → HasBottleneck sides per parts u
          → HasBottleneck (sides_in flags sides) per kept_parts (place_in flags u)
      renumbered_bottleneck u own b =
          let all = all_own b.side u (in_from_contains sides b.side b.uses.listed)
          (in_from_contains b.side.users u b.uses.used) own in
          record {
            side = renumbered b.side;
            uses = uses_renumbered b.side u own b.uses;
            full = load_kept parts b.side all ∙ b.full;
            greatest =
                All-from_contains (λ i. kept_parts i ≤ kept_parts (place_in flags u)) _ (λ i used.
                let r = from_map (place_in flags) b.side.users i (in_from_contains (map (place_in flags) b.side.users) i
                used) in
                let le = All-contains (λ v. parts v ≤ parts u) b.side.users r.0 b.greatest
                (contains_from_in b.side.users r.0 r.1) in
                let mine : kept_parts (place_in flags u) ≡ parts u = ap parts (old_of_place flags u own) in
                let other = ap kept_parts (sym r.2) ∙ ap parts (old_of_place flags r.0 (all r.0 r.1)) in
                omega (arith, le, mine, other));
          }

      part_fair : IsFair sides per parts → IsFair (sides_in flags sides) per kept_parts
      part_fair f = record {
        some_part = f.some_part;
        within = All-from_contains (λ t. load kept_parts t ≤ t.cap * per) (sides_in flags sides) (λ t listed.
            let g = from_sides_in sides t (in_from_contains (sides_in flags sides) t listed) in
            let small =
            All-contains (λ s. load parts s ≤ s.cap * per) sides g.side f.within
            (contains_from_in sides g.side g.listed) in
            let same = load_kept parts g.side (all_own g.side g.user g.listed g.used g.own) in
            subst (λ (s : Side). load kept_parts s ≤ s.cap * per) (sym g.is) (omega (arith, small, same)));
        held = λ j limited.
            let w = stood_limited j limited in
            subst (HasBottleneck (sides_in flags sides) per kept_parts) w.place
            (renumbered_bottleneck w.u w.own (f.held w.u w.limited));
      }

      kept_rate : (j : ℕ) (r : Rate) → is_in flags (old flags j) ≡ true → place_in flags (old flags j) ≡ j
          → IsRateOf sides per parts (old flags j) r → IsRateOf (sides_in flags sides) per kept_parts j r
      kept_rate j Unlimited own place none = λ limited.
          let w = stood_limited j limited in none (subst (IsLimited sides) (sym w.was) w.limited)
      kept_rate j (Finite ratio) own place ((side, uses), worth) = (
        subst (IsLimited (sides_in flags sides)) place
            (renumbered side, uses_renumbered side (old flags j) own uses),
        worth,
      )

pub flows_apart_are_fair : FlowsApartAreFair
flows_apart_are_fair flags sides rates apart f = record {
  one_each = refl;
  per = f.per;
  parts = kept_parts flags sides apart f.per f.parts;
  fair = part_fair flags sides apart f.per f.parts f.fair;
  rated = λ j d within.
      let x = get_or (flagged flags rates) j d in
      let at = stood_at flags rates j x (slice_get-get_or (flagged flags rates) j d within) in
      kept_rate flags sides apart f.per f.parts j x at.own at.place
      (rate_at sides (length flags) rates f (old flags j) x at.at);
}
