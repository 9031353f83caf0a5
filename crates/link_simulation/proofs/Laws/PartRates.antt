-- Fair rates of messages that share no side with the others are fair for them alone.
use Rattle.link_simulation.proofs.Common.{common_steps, ◌≡◌, ℕ, zero, suc, ◌+◌, ◌*◌, ◌≤◌, List, [], ◌∷◌, map, Bool}
use Rattle.link_simulation.proofs.Common.{true, false, cond, Option, Some, None, All, Contains, sum_by, refl, sym, ap}
use Rattle.link_simulation.proofs.Common.{◌∙◌, subst, arith, inl, inr, ◌&&◌, slice_get, if◌then◌else◌, filter, Ordering}
use Rattle.link_simulation.proofs.Common.{All-contains, Side, load, IsFair, flagged, same_peer, Message, Caps}
use Rattle.link_simulation.proofs.Common.{same_pair, is_delivered, AreFair, Parts, capped_sides, sides_for, rates_from}
use Rattle.link_simulation.proofs.Common.{is_unlimited, All-from_contains, In, places_from, rules, by_bool}
use Rattle.std.proofs.lemmas.List.Sums.{sum_by-cons}
use Rattle.fairness.specs.Fairness.Fair.{IsLimited, HasBottleneck}
use Rattle.link_simulation.specs.Simulation.Rates.{capped_side}
use Rattle.fairness.proofs.Lists.Members.{in_from_contains, contains_from_in, in_either, in_filter, from_filter}
use Rattle.fairness.proofs.Lists.Members.{in_get, from_flat_map, in_flat_map}
use Rattle.fairness.proofs.Lists.Places.{place_here, passes_here}

-- which of the caps makes a side
pub data Kind : Type 0 where
  at_egress : Kind
  at_ingress : Kind
  at_link : Kind

-- ---- members

-- ---- places

-- where the kept element of that place stands in the whole list
abbrev pub stood : List Bool → ℕ → ℕ
stood [] i = 0
stood (true ∷ flags) zero = 0
stood (true ∷ flags) (suc i) = suc (stood flags i)
stood (false ∷ flags) i = suc (stood flags i)

pub stood_at : {X : Type 0} (mine : X → Bool) (xs : List X) (i : ℕ) (x : X) → slice_get (filter mine xs) i ≡ Some x
    → (slice_get xs (stood (map mine xs) i) ≡ Some x) × (mine x ≡ true)
stood_at mine [] i x e = cc
stood_at {X} mine (y ∷ ys) i x e = by_test (mine y) refl i e (λ k. stood_at mine ys k x)
  where
    by_test : (b : Bool) → mine y ≡ b → (i : ℕ) → slice_get (cond b (y ∷ filter mine ys) (filter mine ys)) i ≡ Some x
        → ((k : ℕ) → slice_get (filter mine ys) k ≡ Some x
        → (slice_get ys (stood (map mine ys) k) ≡ Some x) × (mine x ≡ true))
        → (slice_get (y ∷ ys) (stood (b ∷ map mine ys) i) ≡ Some x) × (mine x ≡ true)
    by_test true is zero e ih = let same : y ≡ x = cc in (e, subst (λ (z : X). mine z ≡ true) same is)
    by_test true is (suc k) e ih = ih k e
    by_test false is zero e ih = ih zero e
    by_test false is (suc k) e ih = ih (suc k) e

-- sums over places, counted from the next one
sum_shifted : {X : Type 0} (f g : ℕ → ℕ) (p q : ℕ) (test : X → Bool) (xs : List X) → ((i : ℕ) → f (p + i) ≡ g (q + i))
    → sum_by f (places_from p test xs) ≡ sum_by g (places_from q test xs)
sum_shifted f g p q test [] same = refl
sum_shifted {X} f g p q test (x ∷ xs) same =
    by_test _ (sum_shifted f g (p + 1) (q + 1) test xs (λ i. ap f (omega arith) ∙ same (1 + i) ∙ ap g (omega arith)))
  where
    here : f p ≡ g q
    here = ap f (omega arith) ∙ same 0 ∙ ap g (omega arith)

    by_test : (b : Bool) → sum_by f (places_from (p + 1) test xs) ≡ sum_by g (places_from (q + 1) test xs)
        → sum_by f (cond b (p ∷ places_from (p + 1) test xs) (places_from (p + 1) test xs))
        ≡ sum_by g (cond b (q ∷ places_from (q + 1) test xs) (places_from (q + 1) test xs))
    by_test true ih = grind (arith, here, sum_by-cons, places_from)
    by_test false ih = ih

-- a side whose users are all kept has the same load
kept_load : {X : Type 0} (mine uses : X → Bool) (f : ℕ → ℕ) (xs : List X)
    → ((x : X) → In xs x → uses x ≡ true → mine x ≡ true)
    → sum_by (λ i. f (stood (map mine xs) i)) (places_from 0 uses (filter mine xs)) ≡ sum_by f (places_from 0 uses xs)
kept_load mine uses f [] all = refl
kept_load {X} mine uses f (x ∷ xs) all =
    by_test (mine x) refl (uses x) refl (kept_load mine uses (λ i. f (suc i)) xs (λ y h. all y (inr h)))
  where
    next : sum_by (λ i. f (suc i)) (places_from 0 uses xs) ≡ sum_by f (places_from 1 uses xs)
    next = sum_shifted (λ i. f (suc i)) f 0 1 uses xs (λ i. ap f (omega arith))

    later : sum_by (λ i. f (suc (stood (map mine xs) i))) (places_from 0 uses (filter mine xs))
        ≡ sum_by (λ i. f (stood (true ∷ map mine xs) i)) (places_from 1 uses (filter mine xs))
    later = grind (arith, sum_shifted)

    by_test : (b : Bool) → mine x ≡ b → (u : Bool) → uses x ≡ u
        → sum_by (λ i. f (suc (stood (map mine xs) i))) (places_from 0 uses (filter mine xs))
        ≡ sum_by (λ i. f (suc i)) (places_from 0 uses xs) → sum_by (λ i. f (stood (b ∷ map mine xs) i))
        (places_from 0 uses (cond b (x ∷ filter mine xs) (filter mine xs)))
        ≡ sum_by f (cond u (0 ∷ places_from (0 + 1) uses xs) (places_from (0 + 1) uses xs))
    by_test true is true used ih =
        rw used (omega (
          arith,
          ih,
          next,
          later,
          sum_by-cons (λ i. f (stood (true ∷ map mine xs) i)) 0 (places_from 1 uses (filter mine xs)),
          sum_by-cons f 0 (places_from 1 uses xs),
        ))
    by_test true is false used ih = rw used (sym later ∙ ih ∙ next)
    by_test false is true used ih = let own : mine x ≡ true = all x (inl refl) used in cc
    by_test false is false used ih = ih ∙ next

module _ {P : Type 0} (cmp : P → P → Ordering) (caps : Caps P) where
  -- ---- rates

  rates_shifted : (f g : ℕ → ℕ) (p q : ℕ) (ms : List (Message P)) → ((i : ℕ) → f (p + i) ≡ g (q + i))
      → rates_from cmp caps f p ms ≡ rates_from cmp caps g q ms
  rates_shifted f g p q [] same = refl
  rates_shifted f g p q (m ∷ ms) same =
      let here : f p ≡ g q = ap f (omega arith) ∙ same 0 ∙ ap g (omega arith) in
      rw (here, rates_shifted f g (p + 1) (q + 1) ms (λ i. ap f (omega arith) ∙ same (1 + i) ∙ ap g (omega arith))) refl

  kept_rates : (mine : Message P → Bool) (f : ℕ → ℕ) (ms : List (Message P))
      → flagged (map mine ms) (rates_from cmp caps f 0 ms)
      ≡ rates_from cmp caps (λ i. f (stood (map mine ms) i)) 0 (filter mine ms)
  kept_rates mine f [] = refl
  kept_rates mine f (m ∷ ms) =
      by_bool (mine m) (λ is. rw is (
      ap (λ (rs : Parts). (if is_unlimited cmp caps m then None else Some (f 0)) ∷ rs)
      (ap (flagged (map mine ms)) next ∙ (kept_rates mine (λ i. f (suc i)) ms) ∙ later)))
      (λ is. rw is (ap (flagged (map mine ms)) next ∙ (kept_rates mine (λ i. f (suc i)) ms)))
    where
      next : rates_from cmp caps f 1 ms ≡ rates_from cmp caps (λ i. f (suc i)) 0 ms
      next = rates_shifted f (λ i. f (suc i)) 1 0 ms (λ i. ap f (omega arith))

      later : rates_from cmp caps (λ i. f (suc (stood (map mine ms) i))) 0 (filter mine ms)
          ≡ rates_from cmp caps (λ i. f (stood (true ∷ map mine ms) i)) 1 (filter mine ms)
      later = grind (arith, rates_shifted)

  -- ---- which message brings a side

  abbrev pub cap_at : Kind → Message P → Option ℕ
  cap_at at_egress m = caps.egress m.origin
  cap_at at_ingress m = if is_delivered cmp m then caps.ingress m.recipient else None
  cap_at at_link m = caps.link m.origin m.recipient

  abbrev pub uses_at : Kind → Message P → Message P → Bool
  uses_at at_egress m n = same_peer cmp m.origin n.origin
  uses_at at_ingress m n = is_delivered cmp n && same_peer cmp m.recipient n.recipient
  uses_at at_link m n = same_pair cmp m n

  abbrev pub side_at : Kind → List (Message P) → Message P → ℕ → Side
  side_at k ms m cap = record { cap = cap; users = places_from 0 (uses_at k m) ms }

  from_side_of : (o : Option ℕ) (uses : Message P → Bool) (ms : List (Message P)) (s : Side)
      → In (capped_side cmp o uses ms) s
      → (c : ℕ) × (o ≡ Some c) × (s ≡ record { cap = c; users = places_from 0 uses ms })
  from_side_of None uses ms s h = absurd h
  from_side_of (Some c) uses ms s (inl e) = (c, refl, sym e)
  from_side_of (Some c) uses ms s (inr h) = absurd h

  abbrev Brings : List (Message P) → Message P → Side → Type 0
  Brings ms m s = (k : Kind) × (cap : ℕ) × (cap_at k m ≡ Some cap) × (s ≡ side_at k ms m cap)

  from_sides_for : (ms : List (Message P)) (m : Message P) (s : Side) → In (sides_for cmp caps ms m) s → Brings ms m s
  from_sides_for ms m s h = search (rules, in_either, from_side_of)

  to_sides_for : (k : Kind) (ms : List (Message P)) (m : Message P) (c : ℕ) → cap_at k m ≡ Some c
      → In (sides_for cmp caps ms m) (side_at k ms m c)
  to_sides_for _ ms m c e = grind arith

  -- what brings a side to the messages, and which side
  pub from_sides : (ms : List (Message P)) (s : Side) → Contains (capped_sides cmp caps ms) s
      → (m : Message P) × In ms m × Brings ms m s
  from_sides ms s has =
      let r = from_flat_map (sides_for cmp caps ms) ms s (in_from_contains (capped_sides cmp caps ms) s has) in
      (r.0, r.1, from_sides_for ms r.0 s r.2)

  pub to_sides : (k : Kind) (ms : List (Message P)) (m : Message P) (c : ℕ) → In ms m → cap_at k m ≡ Some c
      → Contains (capped_sides cmp caps ms) (side_at k ms m c)
  to_sides k ms m c has e = grind (arith, contains_from_in, in_flat_map, to_sides_for)

  -- a side that a message of the set brings is used by messages of the set alone
  abbrev pub SharesNoSide : (Message P → Bool) → List (Message P) → Type 0
  SharesNoSide mine ms = (k : Kind) (m n : Message P) → In ms m → In ms n → uses_at k m n ≡ true → mine m ≡ mine n

  module _ (mine : Message P → Bool) (ms : List (Message P)) (per : ℕ) (parts : ℕ → ℕ) (apart : SharesNoSide mine ms)
      (fair : IsFair (capped_sides cmp caps ms) per parts) where
    abbrev own_parts : ℕ → ℕ
    own_parts i = parts (stood (map mine ms) i)

    same_load : (k : Kind) (m : Message P) (c : ℕ) → In ms m → mine m ≡ true
        → load own_parts (side_at k (filter mine ms) m c) ≡ load parts (side_at k ms m c)
    same_load k m c has own = kept_load mine (uses_at k m) parts ms (λ n h u. sym (apart k m n has h u) ∙ own)

    abbrev Of : Side → Type 0
    Of s = (m : Message P) × In ms m × (mine m ≡ true) × Brings (filter mine ms) m s

    of_part : (s : Side) → Contains (capped_sides cmp caps (filter mine ms)) s → Of s
    of_part s has =
        let r = from_sides (filter mine ms) s has in
        let g : In ms r.0 × (mine r.0 ≡ true) = from_filter mine ms r.0 r.1 in
        (r.0, g.0, g.1, r.2)

    part_within : (s : Side) → Of s → load own_parts s ≤ s.cap * per
    part_within s (m, has, own, (k, c, is, e)) =
        grind (arith, All-contains, (same_load k m c has own), (to_sides k ms m c has is))

    -- the bottleneck of a message in the whole list is one in the part
    part_bottleneck : (i : ℕ) (x : Message P) → slice_get (filter mine ms) i ≡ Some x
        → HasBottleneck (capped_sides cmp caps ms) per parts (stood (map mine ms) i)
        → HasBottleneck (capped_sides cmp caps (filter mine ms)) per own_parts i
    part_bottleneck i x here b = by_side (from_sides ms b.side b.uses.listed)
      where
        stands : (slice_get ms (stood (map mine ms) i) ≡ Some x) × (mine x ≡ true)
        stands = stood_at mine ms i x here

        by_side : (m : Message P) × In ms m × Brings ms m b.side
            → HasBottleneck (capped_sides cmp caps (filter mine ms)) per own_parts i
        by_side (m, has, (k, c, is, e)) =
            let used = subst (λ (z : Side). Contains z.users (stood (map mine ms) i)) e b.uses.used in
            let there = passes_here _ ms (stood _ i) (in_from_contains _ _ used) in
            let same_x : Some there.0 ≡ Some x = sym there.1 ∙ stands.0 in
            let it : there.0 ≡ x = cc in
            let uses_x : uses_at k m x ≡ true = subst (λ (z : Message P). uses_at k m z ≡ true) it there.2 in
            let own_m = apart k m x has (in_get ms _ x stands.0) uses_x ∙ stands.1 in
            let filled = subst (λ (z : Side). load parts z ≡ z.cap * per) e b.full in
            let most : All (λ other. parts other ≤ parts (stood (map mine ms) i)) (places_from 0 (uses_at k m) ms)
            = subst (λ (z : Side). All (λ other. parts other ≤ parts (stood (map mine ms) i)) z.users) e b.greatest in
            record {
              side = side_at k (filter mine ms) m c;
              uses =
                  record {
                    listed = to_sides k _ m c (in_filter mine ms m has own_m) is;
                    used = place_here _ _ i x here uses_x;
                  };
              full = same_load k m c has own_m ∙ filled;
              greatest = All-from_contains _ _ (λ other has_other. greatest k m other has_other most);
            }
          where
            greatest : (k : Kind) (m : Message P) (other : ℕ)
                → Contains (places_from 0 (uses_at k m) (filter mine ms)) other
                → All (λ o. parts o ≤ parts (stood (map mine ms) i)) (places_from 0 (uses_at k m) ms)
                → own_parts other ≤ own_parts i
            greatest k m other has_other most =
                let at = passes_here _ _ other (in_from_contains _ other has_other) in
                All-contains (λ o. parts o ≤ parts (stood (map mine ms) i)) _ _ most
                (place_here _ ms _ at.0 (stood_at mine ms other at.0 at.1).0 at.2)

    part_held : (i : ℕ) → IsLimited (capped_sides cmp caps (filter mine ms)) i
        → HasBottleneck (capped_sides cmp caps (filter mine ms)) per own_parts i
    part_held i limited = by_side (of_part limited.0 limited.1.listed)
      where
        by_side : Of limited.0 → HasBottleneck (capped_sides cmp caps (filter mine ms)) per own_parts i
        by_side (m, has, own, (k, c, is, e)) =
            let used = subst (λ (z : Side). Contains z.users i) e limited.1.used in
            let at = passes_here (uses_at k m) (filter mine ms) i (in_from_contains _ i used) in
            let there : slice_get ms (stood (map mine ms) i) ≡ Some at.0 = (stood_at mine ms i at.0 at.1).0 in
            part_bottleneck i at.0 at.1 (fair.held (stood (map mine ms) i) (
              side_at k ms m c,
              record {
                listed = to_sides k ms m c has is;
                used = place_here (uses_at k m) ms (stood (map mine ms) i) at.0 there at.2;
              },
            ))

    part_is_fair : IsFair (capped_sides cmp caps (filter mine ms)) per own_parts
    part_is_fair = record {
      some_part = fair.some_part;
      within =
          All-from_contains (λ side. load own_parts side ≤ side.cap * per) (capped_sides cmp caps (filter mine ms))
          (λ s has. part_within s (of_part s has));
      held = part_held;
    }

  -- the fair rates of messages that share no side with the others are fair for them alone
  pub fair_part : (mine : Message P → Bool) (ms : List (Message P)) (per : ℕ) (rates : Parts) → SharesNoSide mine ms
      → AreFair cmp caps ms per rates → AreFair cmp caps (filter mine ms) per (flagged (map mine ms) rates)
  fair_part mine ms per rates apart fair =
      grind (arith, common_steps, (part_is_fair mine ms per fair.parts apart fair.fair), (kept_rates mine fair.parts ms))
