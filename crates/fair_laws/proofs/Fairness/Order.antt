-- The order of the flows does not matter.
use Rattle.fair_laws.proofs.Common.{◌≡◌, ℕ, ◌<◌, ◌≤◌, Bool, true, false, cond, List, [], ◌∷◌, Option, Some, None, map}
use Rattle.fair_laws.proofs.Common.{length, count_by, refl, sym, ap, ap₂, ◌∙◌, subst, inl, inr, arith, IsTotalOrder}
use Rattle.fair_laws.proofs.Common.{Ordering, get_or-map, length-map, sum_by-cons, IsPermutation-refl}
use Rattle.fair_laws.proofs.Common.{IsPermutation-sym, Contains-permutation, Flow, Rate, Subject, last_rate, Caps}
use Rattle.fair_laws.proofs.Common.{AreOfPeers, limits, AreFairUnder, rules}
use Rattle.std.specs.Prelude.{◌==◌}
use Rattle.std.specs.List.{swap}
use Rattle.std.specs.List.Sorted.{IsPermutation}
use Rattle.std.proofs.lemmas.List.{map-set}
use Rattle.std.proofs.lemmas.List.Sorted.{IsPermutation-trans, IsPermutation-swap, IsPermutation-keeps}
use Rattle.std.proofs.lemmas.List.Sorted.{sum_by-IsPermutation}
use Rattle.fairness.specs.Fairness.UnderCaps.{HaveDistinctIds, OrderDoesNotMatter}
use Rattle.fairness.proofs.Lists.Members.{In, in_from_contains, contains_from_in, some_or_none}
use Rattle.fairness.proofs.Fairness.OneAllocation.{one_allocation}
use Rattle.fair_laws.proofs.Fairness.Among.{Allotted, flow_of, parts_of, flows_of, rates_of, AreFairAmong, among_from}
use Rattle.fair_laws.proofs.Fairness.Among.{under_from}
use Rattle.fairness.proofs.Fairness.Sharing.{total}

map-swap : {X Y : Type 0} (f : X → Y) (xs : List X) (i j : ℕ) → i < length xs → j < length xs
    → map f (swap xs i j) ≡ swap (map f xs) i j
map-swap f [] i j il jl = refl
map-swap f (x ∷ xs) i j il jl = search (rules, map-set, get_or-map)

-- the elements that the images come from, in the order of the images
record Lifted {X Y : Type 0} (f : X → Y) (xs : List X) (images : List Y) : Type 0 where
  all : List X
  permuted : IsPermutation xs all
  are : map f all ≡ images

lift : {X Y : Type 0} (f : X → Y) (xs : List X) (ys : List Y) → IsPermutation (map f xs) ys → Lifted f xs ys
lift {X} {Y} f xs ys p =
    IsPermutation-keeps (map f xs) _ (record { all = xs; permuted = IsPermutation-refl xs; are = refl }) step ys p
  where
    step : (l : List Y) (i j : ℕ) → i < length l → j < length l → Lifted f xs l → Lifted f xs (swap l i j)
    step l i j il jl h =
        let len : length l ≡ length h.all = sym (ap length h.are) ∙ length-map h.all f in
        let i_in : i < length h.all = omega arith in
        let j_in : j < length h.all = omega arith in record {
          all = swap h.all i j;
          permuted = search (rules, IsPermutation-trans, IsPermutation-swap);
          are = map-swap f h.all i j i_in j_in ∙ ap (λ (zs : List Y). swap zs i j) h.are;
        }

in_permuted : {X : Type 0} (xs ys : List X) (x : X) → IsPermutation xs ys → In xs x → In ys x
in_permuted xs ys x p h = in_from_contains ys x (Contains-permutation xs ys x p (contains_from_in xs x h))

-- ---- rates by id

abbrev count_of : Bool → ℕ
count_of b = cond b 1 0

module _ {P : Type 0} (id : ℕ) where
  abbrev pub has : Flow P → Bool
  has f = f.id == id

  abbrev pub rate_among : List (Allotted P) → Option Rate
  rate_among xs = last_rate id (flows_of xs) (rates_of xs)

  no_rate : (xs : List (Allotted P)) → ((x : Allotted P) → In xs x → has x.flow ≡ false) → rate_among xs ≡ None
  no_rate [] none = refl
  no_rate (x ∷ xs) none = rw (no_rate xs (λ y h. none y (inr h)), none x (inl refl)) refl

  counted_none : (xs : List (Allotted P)) → count_by has (flows_of xs) ≡ 0 → (x : Allotted P) → In xs x
      → has x.flow ≡ false
  counted_none [] zero_count x h = absurd h
  counted_none (y ∷ xs) zero_count x h = by_test (has y.flow) refl h (λ e. counted_none xs e x)
    where
      by_test : (b : Bool) → has y.flow ≡ b → In (y ∷ xs) x
          → (count_by has (flows_of xs) ≡ 0 → In xs x → has x.flow ≡ false) → has x.flow ≡ false
      by_test true is g ih =
          let one : count_of (has y.flow) ≡ 1 = rw is refl in
          absurd (omega (arith, zero_count, sum_by-cons (λ (f : Flow P). cond (has f) 1 0) y.flow (flows_of xs), one))
      by_test false is (inl e) ih = subst (λ (z : Allotted P). has z.flow ≡ false) e is
      by_test false is (inr g) ih =
          ih (omega (arith, zero_count, sum_by-cons (λ (f : Flow P). cond (has f) 1 0) y.flow (flows_of xs))) g

  pub own_rate : (xs : List (Allotted P)) (x : Allotted P) → count_by has (flows_of xs) ≤ 1 → In xs x
      → has x.flow ≡ true → rate_among xs ≡ Some x.rate
  own_rate [] x few h is = absurd h
  own_rate (y ∷ xs) x few (inl e) is =
      let on : has y.flow ≡ true = subst (λ (z : Allotted P). has z.flow ≡ true) (sym e) is in
      let one : count_of (has y.flow) ≡ 1 = rw on refl in
      let rest : count_by has (flows_of xs) ≡ 0 = search (rules, sum_by-cons) in
      rw (no_rate xs (counted_none xs rest), on) (ap (λ (z : Allotted P). Some z.rate) e)
  own_rate (y ∷ xs) x few (inr h) is =
      let fewer : count_by has (flows_of xs) ≤ 1 = search (rules, sum_by-cons) in
      rw (own_rate xs x fewer h is) refl

  same_rate : (xs ys : List (Allotted P)) → IsPermutation xs ys → count_by has (flows_of xs) ≤ 1
      → count_by has (flows_of ys) ≤ 1 → rate_among ys ≡ rate_among xs
  same_rate xs ys p few few' = elim (some_or_none (λ (x : Allotted P). has x.flow) xs) [
    | inl (x, h, is) ↦ own_rate ys x few' (in_permuted xs ys x p h) is ∙ sym (own_rate xs x few h is)
    | inr none ↦ no_rate ys (λ y h. none y (in_permuted ys xs y (IsPermutation-sym xs ys p) h)) ∙ sym (no_rate xs none)
  ]

-- ---- fairness

module _ {P : Type 0} (cmp : P → P → Ordering) (caps : Caps P) where
  total_permuted : (s : Subject P) (xs ys : List (Allotted P)) → IsPermutation xs ys
      → total cmp caps flow_of parts_of s ys ≡ total cmp caps flow_of parts_of s xs
  total_permuted s xs ys p = sum_by-IsPermutation (λ (x : Allotted P). cond (limits cmp s x.flow) x.parts 0) xs ys p

  pub permuted_among : (per : ℕ) (xs ys : List (Allotted P)) → IsPermutation xs ys → AreFairAmong cmp caps per xs
      → AreFairAmong cmp caps per ys
  permuted_among per xs ys p f = record {
    shared = record {
      some_part = f.shared.some_part;
      within = λ s cap has. omega (arith, total_permuted s xs ys p, f.shared.within s cap has);
      held = λ x h c.
          let b = f.shared.held x (back x h) c in record {
            by = b.by;
            full = total_permuted b.by.subject xs ys p ∙ b.full;
            greatest = λ y among l. b.greatest y (back y among) l;
          };
    };
    rated = λ x h. f.rated x (back x h);
  }
    where
      back : (x : Allotted P) → In ys x → In xs x
      back x h = in_permuted ys xs x (IsPermutation-sym xs ys p) h

pub same_last_rate : {P : Type 0} (cmp : P → P → Ordering) → IsTotalOrder cmp
    → (caps : Caps P) (flows others : List (Flow P)) (rates other_rates : List Rate)
    → AreOfPeers cmp caps → HaveDistinctIds flows → IsPermutation flows others → AreFairUnder cmp caps flows rates
    → AreFairUnder cmp caps others other_rates → (id : ℕ) → last_rate id others other_rates ≡ last_rate id flows rates
same_last_rate {P} cmp order caps flows others rates other_rates of distinct p fair other_fair id =
    let s = among_from cmp caps order of flows rates fair in
    let l = lift _ s.all others (subst (λ (fs : List (Flow P)). IsPermutation fs others) (sym s.flows_are) p) in
    let whole =
    under_from cmp caps order of s.per l.all (permuted_among cmp caps s.per s.all l.all l.permuted s.fair) in
    let under : AreFairUnder cmp caps others (rates_of l.all) = search rules in
    let one : other_rates ≡ rates_of l.all = search (rules, one_allocation) in
    let few : count_by (has id) (flows_of s.all) ≤ 1 =
    subst (λ (fs : List (Flow P)). count_by (has id) fs ≤ 1) (sym s.flows_are) (distinct id) in
    let same_count : count_by (has id) others ≡ count_by (has id) flows = search (rules, sum_by-IsPermutation) in
    let few' : count_by (has id) (flows_of l.all) ≤ 1 = search rules in
    ap₂ (λ (fs : List (Flow P)) (rs : List Rate). last_rate id fs rs) (sym l.are) one ∙ same_rate id s.all l.all
    l.permuted few few' ∙ ap₂ (λ (fs : List (Flow P)) (rs : List Rate). last_rate id fs rs) s.flows_are s.rates_are

pub order_does_not_matter : {P : Type 0} (cmp : P → P → Ordering) → IsTotalOrder cmp → OrderDoesNotMatter cmp
order_does_not_matter cmp order caps flows others m n of distinct p a b id =
    b.by_id id ∙ same_last_rate cmp order caps flows others a.rates b.rates of distinct p a.fair b.fair id
    ∙ sym (a.by_id id)
