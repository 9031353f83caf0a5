-- Fairness under caps of elements that have a flow and parts each, said without their places: so it holds in every
-- order, of a part, and of two parts together.
use Rattle.fairness.proofs.Common.{◌≡◌, ℕ, zero, suc, ◌+◌, ◌*◌, ◌<◌, ◌≤◌, Bool, true, false, cond, List, [], ◌∷◌}
use Rattle.fairness.proofs.Common.{Some, map, length, get_or, sum_by, Contains, refl, sym, ap, ◌∙◌, subst, inl, inr}
use Rattle.fairness.proofs.Common.{arith, slice_get, filter, IsTotalOrder, Ordering, All-contains, sum_by-cons}
use Rattle.fairness.proofs.Common.{slice_get-map, same_Some, Flow, Side, load, Uses, IsLimited, IsFair, HasBottleneck}
use Rattle.fairness.proofs.Common.{Subject, Caps, cap_of, AreOfPeers, limits, sides_under, IsCappedSide, places_from}
use Rattle.fairness.proofs.Common.{rules, common_steps}
use Rattle.fairness.proofs.Lists.Members.{In, in_map, in_get, get_in, in_from_contains, from_filter, some_or_none}
use Rattle.fairness.proofs.Lists.Members.{get_from_map}
use Rattle.fairness.proofs.Lists.SumOrder.{All-from_contains}
use Rattle.fairness.proofs.Sides.CapSides.{capped_from_listed, listed_from_capped, side_of_subject}
use Rattle.fairness.proofs.Lists.Places.{place_here, passes_here}

-- a subject with a cap, whose side limits the flow
pub record IsCapped {P : Type 0} (cmp : P → P → Ordering) (caps : Caps P) (f : Flow P) : Type 0 where
  pub subject : Subject P
  pub cap : ℕ
  pub capped : cap_of caps subject ≡ Some cap
  pub limited : limits cmp subject f ≡ true

module _ {P X : Type 0} (flow : X → Flow P) (parts : X → ℕ) where
  flow_at : (xs : List X) (k : ℕ) (x : X) → slice_get xs k ≡ Some x → slice_get (map flow xs) k ≡ Some (flow x)
  flow_at xs k x e = slice_get-map flow xs k ∙ (rw e refl)

  -- the parts at each place, where the first has the given place
  abbrev pub StandsAt : (ℕ → ℕ) → ℕ → List X → Type 0
  StandsAt g place [] = Unit {0}
  StandsAt g place (x ∷ xs) = (g place ≡ parts x) × StandsAt g (place + 1) xs

  pub parts_at : (g : ℕ → ℕ) (place : ℕ) (xs : List X) (k : ℕ) (x : X) → StandsAt g place xs → slice_get xs k ≡ Some x
      → g (place + k) ≡ parts x
  parts_at g place [] k x stands at = cc
  parts_at g place (y ∷ xs) zero x stands at = search rules
  parts_at g place (y ∷ xs) (suc k) x stands at = search (rules, parts_at g (place + 1) xs k x stands.1)

  pub stands_from : (g : ℕ → ℕ) (place : ℕ) (xs : List X)
      → ((k : ℕ) → k < length xs → g (place + k) ≡ get_or (map parts xs) k 0) → StandsAt g place xs
  stands_from g place [] h = tt
  stands_from g place (x ∷ xs) h = (
    ap g first ∙ h 0 (omega arith),
    stands_from g (place + 1) xs (λ k within. ap g (next k) ∙ h (suc k) (omega arith)),
  )
    where
      first : place ≡ place + 0
      first = omega arith

      next : (k : ℕ) → place + 1 + k ≡ place + suc k
      next k = omega arith

module _ {P X : Type 0} (cmp : P → P → Ordering) (caps : Caps P) (flow : X → Flow P) (parts : X → ℕ) where
  -- what those get together that a side of the subject limits
  abbrev pub total : Subject P → List X → ℕ
  total s xs = sum_by (λ x. cond (limits cmp s (flow x)) (parts x) 0) xs

  -- the bottleneck of one
  pub record IsHeldAmong (per : ℕ) (xs : List X) (x : X) : Type 0 where
    pub by : IsCapped cmp caps (flow x)
    pub full : total by.subject xs ≡ by.cap * per
    pub greatest : (y : X) → In xs y → limits cmp by.subject (flow y) ≡ true → parts y ≤ parts x

  -- their parts, of which `per` are one byte a second, are fair
  pub record AreShared (per : ℕ) (xs : List X) : Type 0 where
    pub some_part : 0 < per
    pub within : (s : Subject P) (cap : ℕ) → cap_of caps s ≡ Some cap → total s xs ≤ cap * per
    pub held : (x : X) → In xs x → IsCapped cmp caps (flow x) → IsHeldAmong per xs x

  pub total-cons : (s : Subject P) (x : X) (xs : List X)
      → total s (x ∷ xs) ≡ cond (limits cmp s (flow x)) (parts x) 0 + total s xs
  total-cons s x xs = sum_by-cons (λ (y : X). cond (limits cmp s (flow y)) (parts y) 0) x xs

  pub total_none : (s : Subject P) (xs : List X) → ((x : X) → In xs x → limits cmp s (flow x) ≡ false) → total s xs ≡ 0
  total_none s [] none = refl
  total_none s (x ∷ xs) none =
      total-cons s x xs ∙ (rw (none x (inl refl)) (omega (arith, total_none s xs (λ y h. none y (inr h)))))

  -- ---- places

  pub load_is : (s : Subject P) (g : ℕ → ℕ) (place : ℕ) (xs : List X) → StandsAt flow parts g place xs
      → sum_by g (places_from place (limits cmp s) (map flow xs)) ≡ total s xs
  load_is s g place [] stands = refl
  load_is s g place (x ∷ xs) stands = search (rules, total-cons, sum_by-cons, load_is s g (place + 1) xs stands.1)

  pub place_in : (s : Subject P) (xs : List X) (k : ℕ) (x : X) → slice_get xs k ≡ Some x → limits cmp s (flow x) ≡ true
      → Contains (places_from 0 (limits cmp s) (map flow xs)) k
  place_in s xs k x at l = place_here (limits cmp s) (map flow xs) k (flow x) (flow_at flow parts xs k x at) l

  -- who stands at a place
  from_place : (s : Subject P) (xs : List X) (k : ℕ) → Contains (places_from 0 (limits cmp s) (map flow xs)) k
      → (x : X) × (slice_get xs k ≡ Some x) × (limits cmp s (flow x) ≡ true)
  from_place s xs k has =
      grind (
        arith,
        common_steps,
        passes_here (limits cmp s) (map flow xs) k (in_from_contains (places_from 0 (limits cmp s) (map flow xs)) k has),
        in_from_contains (places_from 0 (limits cmp s) (map flow xs)) k has,
        get_from_map,
      )

  module _ (order : IsTotalOrder cmp) (of : AreOfPeers cmp caps) (xs : List X) where
    abbrev pub S : List Side
    S = sides_under cmp caps (map flow xs)

    abbrev pub side_for : Subject P → ℕ → Side
    side_for s cap = side_of_subject cmp order caps of (map flow xs) s cap

    uses_side : (k : ℕ) (x : X) → slice_get xs k ≡ Some x → (c : IsCapped cmp caps (flow x))
        → Uses S k (side_for c.subject c.cap)
    uses_side k x at c =
        grind (
          arith,
          common_steps,
          listed_from_capped cmp order caps of (map flow xs) c.subject c.cap (flow x) c.capped
              (in_map flow xs x (in_get xs k x at)) c.limited,
          in_map flow xs x (in_get xs k x at),
          in_get xs k x,
          place_in c.subject xs k x,
        )

    pub limited_from_capped : (k : ℕ) (x : X) → slice_get xs k ≡ Some x → IsCapped cmp caps (flow x) → IsLimited S k
    limited_from_capped k x at c = (side_for c.subject c.cap, uses_side k x at c)

    -- the user of a side
    pub user_is : (side : Side) (c : IsCappedSide cmp caps (map flow xs) side) (j : ℕ) → Contains side.users j
        → (x : X) × (slice_get xs j ≡ Some x) × (limits cmp c.subject (flow x) ≡ true)
    user_is side c j used = from_place c.subject xs j (subst (λ (ps : List ℕ). Contains ps j) c.users used)

    pub capped_from_limited : (k : ℕ) (x : X) → slice_get xs k ≡ Some x → IsLimited S k → IsCapped cmp caps (flow x)
    capped_from_limited k x at (side, u) =
        let c = capped_from_listed cmp order caps of (map flow xs) side u.listed in
        let r = user_is side c k u.used in
        let same : r.0 ≡ x = same_Some r.0 x (sym r.1 ∙ at) in
        record {
          subject = c.subject;
          cap = side.cap;
          capped = c.capped;
          limited = subst (λ (z : X). limits cmp c.subject (flow z) ≡ true) same r.2;
        }

    module _ (g : ℕ → ℕ) (per : ℕ) (stands : StandsAt flow parts g 0 xs) where
      at : (k : ℕ) (x : X) → slice_get xs k ≡ Some x → g k ≡ parts x
      at k x h = let e : k ≡ 0 + k = omega arith in ap g e ∙ parts_at flow parts g 0 xs k x stands h

      pub load_of : (side : Side) (c : IsCappedSide cmp caps (map flow xs) side) → load g side ≡ total c.subject xs
      load_of side c = ap (sum_by g) c.users ∙ load_is c.subject g 0 xs stands

      -- ---- from fairness by places

      module _ (f : IsFair S per g) where
        within : (s : Subject P) (cap : ℕ) → cap_of caps s ≡ Some cap → total s xs ≤ cap * per
        within s cap has = elim (some_or_none (λ (x : X). limits cmp s (flow x)) xs) [
          | inl (x, h, l) ↦
              let side = side_for s cap in
              let listed =
              listed_from_capped cmp order caps of (map flow xs) s cap (flow x) has (in_map flow xs x h) l in
              let small = All-contains (λ t. load g t ≤ t.cap * per) S side f.within listed in
              omega (arith, small, load_is s g 0 xs stands)
          | inr none ↦ omega (arith, total_none s xs none)
        ]

        held_at : (x : X) (k : ℕ) → slice_get xs k ≡ Some x → HasBottleneck S per g k → IsHeldAmong per xs x
        held_at x k has b =
            let c = capped_from_listed cmp order caps of (map flow xs) b.side b.uses.listed in
            let r = user_is b.side c k b.uses.used in
            let same : r.0 ≡ x = same_Some r.0 x (sym r.1 ∙ has) in
            record {
              by =
                  record {
                    subject = c.subject;
                    cap = b.side.cap;
                    capped = c.capped;
                    limited = subst (λ (z : X). limits cmp c.subject (flow z) ≡ true) same r.2;
                  };
              full = sym (load_of b.side c) ∙ b.full;
              greatest = λ y h l.
                  let p = get_in xs y h in
                  let used =
                  subst (λ (ps : List ℕ). Contains ps p.0) (sym c.users) (place_in c.subject xs p.0 y p.1 l) in
                  let le = All-contains (λ i. g i ≤ g k) b.side.users p.0 b.greatest used in
                  omega (arith, le, at p.0 y p.1, at k x has);
            }

        pub shared_from : AreShared per xs
        shared_from = record {
          some_part = f.some_part;
          within = within;
          held = λ x h c. let p = get_in xs x h in held_at x p.0 p.1 (f.held p.0 (limited_from_capped p.0 x p.1 c));
        }

      -- ---- and back

      module _ (f : AreShared per xs) where
        bottleneck : (j : ℕ) (x : X) → slice_get xs j ≡ Some x → IsHeldAmong per xs x → HasBottleneck S per g j
        bottleneck j x has h =
            let side = side_for h.by.subject h.by.cap in record {
              side = side;
              uses = uses_side j x has h.by;
              full = load_is h.by.subject g 0 xs stands ∙ h.full;
              greatest = All-from_contains (λ i. g i ≤ g j) side.users (λ i used.
                  let r = from_place h.by.subject xs i used in
                  let le = h.greatest r.0 (in_get xs i r.0 r.1) r.2 in
                  omega (arith, le, at i r.0 r.1, at j x has));
            }

        pub fair_from : IsFair S per g
        fair_from = record {
          some_part = f.some_part;
          within = All-from_contains (λ t. load g t ≤ t.cap * per) S (λ side listed.
              let c = capped_from_listed cmp order caps of (map flow xs) side listed in
              omega (arith, load_of side c, f.within c.subject side.cap c.capped));
          held = λ j limited.
              let c = capped_from_listed cmp order caps of (map flow xs) limited.0 limited.1.listed in
              let r = user_is limited.0 c j limited.1.used in
              bottleneck j r.0 r.1 (f.held r.0 (in_get xs j r.0 r.1) (capped_from_limited j r.0 r.1 limited));
        }

  -- ---- parts

  -- where all that a side limits pass, their total is the same
  pub total_same : (mine : X → Bool) (s : Subject P) (xs : List X)
      → ((x : X) → In xs x → limits cmp s (flow x) ≡ true → mine x ≡ true) → total s (filter mine xs) ≡ total s xs
  total_same mine s [] all = refl
  total_same mine s (x ∷ xs) all = by_test (mine x) _ refl refl (total_same mine s xs (λ y h. all y (inr h)))
    where
      by_test : (b l : Bool) → mine x ≡ b → limits cmp s (flow x) ≡ l → total s (filter mine xs) ≡ total s xs
          → total s (cond b (x ∷ filter mine xs) (filter mine xs)) ≡ total s (x ∷ xs)
      by_test true l own is ih = omega (arith, ih, total-cons s x (filter mine xs), total-cons s x xs)
      by_test false true own is ih = let passes : mine x ≡ true = all x (inl refl) is in cc
      by_test false false own is ih =
          let nothing : cond (limits cmp s (flow x)) (parts x) 0 ≡ 0 = rw is refl in
          omega (arith, ih, total-cons s x xs, nothing)

  pub total_at_most : (mine : X → Bool) (s : Subject P) (xs : List X) → total s (filter mine xs) ≤ total s xs
  total_at_most mine s [] = omega arith
  total_at_most mine s (x ∷ xs) = search (rules, total-cons, total_at_most mine s xs)

  -- two that a capped side limits both pass the test or both fail it
  abbrev pub AreApart : (X → Bool) → List X → Type 0
  AreApart mine xs = (s : Subject P) (cap : ℕ) (x y : X) → cap_of caps s ≡ Some cap → In xs x → In xs y
      → limits cmp s (flow x) ≡ true → limits cmp s (flow y) ≡ true → mine x ≡ mine y

  -- fairness of a part
  pub part_shared : (mine : X → Bool) (per : ℕ) (xs : List X) → AreShared per xs → AreApart mine xs
      → AreShared per (filter mine xs)
  part_shared mine per xs f apart = record {
    some_part = f.some_part;
    within = λ s cap has. omega (arith, total_at_most mine s xs, f.within s cap has);
    held = λ x h c.
        let own = from_filter mine xs x h in
        let b = f.held x own.0 c in record {
          by = b.by;
          full =
              total_same mine b.by.subject xs
              (λ y among l. apart b.by.subject b.by.cap y x b.by.capped among own.0 l b.by.limited ∙ own.1) ∙ b.full;
          greatest = λ y among l. b.greatest y (from_filter mine xs y among).0 l;
        };
  }
