-- Fairness of flows with their rates under caps, said without their places: so it holds in every order, and of a part.
use Rattle.fair_laws.proofs.Common.{◌≡◌, ℕ, zero, suc, ◌+◌, ◌*◌, ◌<◌, List, [], ◌∷◌, Some, map, length, get_or, refl}
use Rattle.fair_laws.proofs.Common.{sym, ap, ◌∙◌, subst, arith, slice_get, IsTotalOrder, Ordering, length-map}
use Rattle.fair_laws.proofs.Common.{slice_get-map, Flow, Rate, Unlimited, Finite, Side, IsFair, IsRateOf, IsWorth}
use Rattle.fair_laws.proofs.Common.{Caps, AreOfPeers, sides_under, AreFairUnder}
use Rattle.std.proofs.lemmas.Option.{get_or_from_slice_get}
use Rattle.fairness.proofs.Lists.Members.{In, in_get, get_in}
use Rattle.fairness.proofs.Fairness.MaxMin.{rate_at}
use Rattle.fairness.proofs.Fairness.Sharing.{StandsAt, parts_at, stands_from, IsCapped, AreShared, S}
use Rattle.fairness.proofs.Fairness.Sharing.{limited_from_capped, capped_from_limited, shared_from, fair_from}

-- a flow, its parts and its rate
pub record Allotted (P : Type 0) : Type 0 where
  pub flow : Flow P
  pub parts : ℕ
  pub rate : Rate

abbrev pub flow_of : {P : Type 0} → Allotted P → Flow P
flow_of x = x.flow

abbrev pub parts_of : {P : Type 0} → Allotted P → ℕ
parts_of x = x.parts

abbrev pub flows_of : {P : Type 0} → List (Allotted P) → List (Flow P)
flows_of xs = map flow_of xs

abbrev pub rates_of : {P : Type 0} → List (Allotted P) → List Rate
rates_of xs = map (λ x. x.rate) xs

-- the parts at each place, where the first has the given place
abbrev HasPartsFrom : {P : Type 0} → (ℕ → ℕ) → ℕ → List (Allotted P) → Type 0
HasPartsFrom g place xs = StandsAt flow_of parts_of g place xs

module _ {P : Type 0} (cmp : P → P → Ordering) (caps : Caps P) where
  abbrev pub IsRated : ℕ → ℕ → Flow P → Rate → Type 0
  IsRated per parts f Unlimited = ¬ IsCapped cmp caps f
  IsRated per parts f (Finite ratio) = IsCapped cmp caps f × IsWorth ratio (record { num = parts; den = per })

  pub record AreFairAmong (per : ℕ) (xs : List (Allotted P)) : Type 0 where
    pub shared : AreShared cmp caps flow_of parts_of per xs
    pub rated : (x : Allotted P) → In xs x → IsRated per x.parts x.flow x.rate

  module _ (order : IsTotalOrder cmp) (of : AreOfPeers cmp caps) (xs : List (Allotted P)) (g : ℕ → ℕ) (per : ℕ)
      (stands : HasPartsFrom g 0 xs) where
    abbrev sides : List Side
    sides = S cmp caps flow_of parts_of order of xs

    at : (k : ℕ) (x : Allotted P) → slice_get xs k ≡ Some x → g k ≡ x.parts
    at k x h = let e : k ≡ 0 + k = omega arith in ap g e ∙ parts_at flow_of parts_of g 0 xs k x stands h

    rate_is : (x : Allotted P) (k : ℕ) → slice_get xs k ≡ Some x → (r : Rate) → IsRateOf sides per g k r
        → IsRated per x.parts x.flow r
    rate_is x k has Unlimited none = λ c. none (limited_from_capped cmp caps flow_of parts_of order of xs k x has c)
    rate_is x k has (Finite ratio) (limited, worth) = (
      capped_from_limited cmp caps flow_of parts_of order of xs k x has limited,
      worth ∙ ap (λ n. n * ratio.denominator) (at k x has),
    )

    fair_among : IsFair sides per g
        → ((k : ℕ) (x : Allotted P) → slice_get xs k ≡ Some x → IsRateOf sides per g k x.rate) → AreFairAmong per xs
    fair_among f rates = record {
      shared = shared_from cmp caps flow_of parts_of order of xs g per stands f;
      rated = λ x h. let p = get_in xs x h in rate_is x p.0 p.1 x.rate (rates p.0 x p.1);
    }

    fair : AreFairAmong per xs → IsFair sides per g
    fair f = fair_from cmp caps flow_of parts_of order of xs g per stands f.shared

    rate_back : (x : Allotted P) (k : ℕ) → slice_get xs k ≡ Some x → (r : Rate) → IsRated per x.parts x.flow r
        → IsRateOf sides per g k r
    rate_back x k has Unlimited none = λ limited.
        none (capped_from_limited cmp caps flow_of parts_of order of xs k x has limited)
    rate_back x k has (Finite ratio) (c, worth) = (
      limited_from_capped cmp caps flow_of parts_of order of xs k x has c,
      worth ∙ ap (λ n. n * ratio.denominator) (sym (at k x has)),
    )

  -- ---- lists

  -- the flows with their parts and rates
  abbrev allotted : (ℕ → ℕ) → ℕ → List (Flow P) → List Rate → List (Allotted P)
  allotted g place [] rates = []
  allotted g place (f ∷ flows) [] = []
  allotted g place (f ∷ flows) (r ∷ rates) =
      record { flow = f; parts = g place; rate = r } ∷ allotted g (place + 1) flows rates

  flows_allotted : (g : ℕ → ℕ) (place : ℕ) (flows : List (Flow P)) (rates : List Rate) → length rates ≡ length flows
      → flows_of (allotted g place flows rates) ≡ flows
  flows_allotted g place [] rates e = refl
  flows_allotted g place (f ∷ flows) [] e = absurd (omega arith)
  flows_allotted g place (f ∷ flows) (r ∷ rates) e =
      ap (λ (fs : List (Flow P)). f ∷ fs) (flows_allotted g (place + 1) flows rates (omega arith))

  rates_allotted : (g : ℕ → ℕ) (place : ℕ) (flows : List (Flow P)) (rates : List Rate) → length rates ≡ length flows
      → rates_of (allotted g place flows rates) ≡ rates
  rates_allotted g place [] [] e = refl
  rates_allotted g place [] (r ∷ rates) e = absurd (omega arith)
  rates_allotted g place (f ∷ flows) [] e = absurd (omega arith)
  rates_allotted g place (f ∷ flows) (r ∷ rates) e =
      ap (λ (rs : List Rate). r ∷ rs) (rates_allotted g (place + 1) flows rates (omega arith))

  stands_allotted : (g : ℕ → ℕ) (place : ℕ) (flows : List (Flow P)) (rates : List Rate)
      → HasPartsFrom g place (allotted g place flows rates)
  stands_allotted g place [] rates = tt
  stands_allotted g place (f ∷ flows) [] = tt
  stands_allotted g place (f ∷ flows) (r ∷ rates) = (refl, stands_allotted g (place + 1) flows rates)

  pub rate_there : (xs : List (Allotted P)) (k : ℕ) (x : Allotted P) → slice_get xs k ≡ Some x
      → slice_get (rates_of xs) k ≡ Some x.rate
  rate_there xs k x at = slice_get-map (λ (x : Allotted P). x.rate) xs k ∙ (rw at refl)

  at_place : (xs : List (Allotted P)) (k : ℕ) → k < length xs → (x : Allotted P) × (slice_get xs k ≡ Some x)
  at_place [] k l = absurd (omega arith)
  at_place (x ∷ xs) zero l = (x, refl)
  at_place (x ∷ xs) (suc k) l = at_place xs k (omega arith)

  -- fair rates of flows, said of the flows with their parts and rates
  pub record IsSaidAmong (flows : List (Flow P)) (rates : List Rate) : Type 0 where
    pub per : ℕ
    pub all : List (Allotted P)
    pub flows_are : flows_of all ≡ flows
    pub rates_are : rates_of all ≡ rates
    pub fair : AreFairAmong per all

  module _ (order : IsTotalOrder cmp) (of : AreOfPeers cmp caps) where
    pub among_from : (flows : List (Flow P)) (rates : List Rate) → AreFairUnder cmp caps flows rates
        → IsSaidAmong flows rates
    among_from flows rates f =
        let xs = allotted f.parts 0 flows rates in
        let flows_are = flows_allotted f.parts 0 flows rates f.one_each in
        let rates_are = rates_allotted f.parts 0 flows rates f.one_each in
        record {
          per = f.per;
          all = xs;
          flows_are = flows_are;
          rates_are = rates_are;
          fair = fair_among order of xs f.parts f.per (stands_allotted f.parts 0 flows rates)
              (subst (λ (fs : List (Flow P)). IsFair (sides_under cmp caps fs) f.per f.parts) (sym flows_are) f.fair)
              (λ k x at. subst (λ (fs : List (Flow P)). IsRateOf (sides_under cmp caps fs) f.per f.parts k x.rate)
              (sym flows_are) (rate_at (sides_under cmp caps flows) (length flows) rates f k x.rate
              (subst (λ (rs : List Rate). slice_get rs k ≡ Some x.rate) rates_are (rate_there xs k x at))));
        }

    pub under_from : (per : ℕ) (xs : List (Allotted P)) → AreFairAmong per xs
        → AreFairUnder cmp caps (flows_of xs) (rates_of xs)
    under_from per xs f = record {
      one_each = length-map xs (λ (x : Allotted P). x.rate) ∙ sym (length-map xs flow_of);
      per = per;
      parts = parts;
      fair = fair order of xs parts per stands f;
      rated = λ k d within.
          let p = at_place xs k (omega (arith, within, length-map xs flow_of)) in
          let e = get_or_from_slice_get (rates_of xs) k p.0.rate d (rate_there xs k p.0 p.1) in
          subst (λ r. IsRateOf (sides_under cmp caps (flows_of xs)) per parts k r) (sym e)
          (rate_back order of xs parts per stands p.0 k p.1 p.0.rate (f.rated p.0 (in_get xs k p.0 p.1)));
    }
      where
        all : List ℕ
        all = map parts_of xs

        parts : ℕ → ℕ
        parts j = get_or all j 0

        stands : HasPartsFrom parts 0 xs
        stands = stands_from flow_of parts_of parts 0 xs (λ k within. let e : 0 + k ≡ k = omega arith in ap parts e)
