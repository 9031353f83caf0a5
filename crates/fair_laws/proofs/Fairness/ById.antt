-- Rates by id under the caps of peers.
use Rattle.fair_laws.proofs.Common.{◌≡◌, ◌↔◌, ℕ, ◌≤◌, Bool, List, [], ◌∷◌, Option, Some, count_by, map, refl, sym, ap}
use Rattle.fair_laws.proofs.Common.{ap₂, ◌∙◌, subst, arith, slice_get, filter, IsTotalOrder, Ordering, eq-eqb}
use Rattle.fair_laws.proofs.Common.{slice_get-map, sum_by-cons, Flow, Rate, Unlimited, AreOfPeers, flagged, last_rate}
use Rattle.fair_laws.proofs.Common.{Caps, common_steps, rules}
use Rattle.fairness.specs.Fairness.UnderCaps.{UsesNoCap, HaveDistinctIds, IsFairById, UnlimitedByIdWhereUncapped}
use Rattle.fairness.specs.Fairness.UnderCaps.{OthersDoNotMatter, is_of_set}
use Rattle.fair_laws.proofs.Fairness.Among.{Allotted, IsSaidAmong, flows_of, rates_of, among_from, rate_there}
use Rattle.fairness.proofs.Lists.Members.{In, from_map, from_filter, in_filter, get_in, in_from_contains}
use Rattle.fairness.proofs.Fairness.OneAllocation.{one_allocation}
use Rattle.fair_laws.proofs.Fairness.Order.{own_rate, has}
use Rattle.fair_laws.proofs.Fairness.Part.{part, flows_of_part, rates_of_part, part_is_fair}
use Rattle.fair_laws.proofs.Fairness.Uncapped.{unlimited_where_uncapped}

-- a filter leaves no more that pass a test
count_by-filter : {X : Type 0} (p q : X → Bool) (xs : List X) → count_by p (filter q xs) ≤ count_by p xs
count_by-filter p q [] = omega arith
count_by-filter {X} p q (x ∷ xs) = grind (arith, common_steps, sum_by-cons, count_by-filter p q xs)

-- where ids are distinct, the rate by the id of a flow is its own
pub rate_by_id : {P : Type 0} (xs : List (Allotted P)) (x : Allotted P) → HaveDistinctIds (flows_of xs) → In xs x
    → last_rate x.flow.id (flows_of xs) (rates_of xs) ≡ Some x.rate
rate_by_id xs x distinct h = own_rate x.flow.id xs x (distinct x.flow.id) h (eq-eqb x.flow.id x.flow.id refl)

module _ {P : Type 0} (cmp : P → P → Ordering) (order : IsTotalOrder cmp) where
  module _ (caps : Caps P) (of : AreOfPeers cmp caps) (flows : List (Flow P)) (m : ℕ → Option Rate)
      (distinct : HaveDistinctIds flows) (a : IsFairById cmp caps flows m) where
    abbrev said : IsSaidAmong cmp caps flows a.rates
    said = among_from cmp caps order of flows a.rates a.fair

    -- the flow with its rate
    record IsRatedAt (f : Flow P) : Type 0 where
      x : Allotted P
      among : In said.all x
      is : x.flow ≡ f
      rate : m f.id ≡ Some x.rate

    rated_at : (f : Flow P) → In flows f → IsRatedAt f
    rated_at f h =
        let r = from_map _ said.all f (subst (λ (fs : List (Flow P)). In fs f) (sym said.flows_are) h) in
        let own = rate_by_id said.all r.0 (subst HaveDistinctIds (sym said.flows_are) distinct) r.1 in
        let same : last_rate f.id flows a.rates ≡ last_rate r.0.flow.id (flows_of said.all) (rates_of said.all) =
        search rules in
        record { x = r.0; among = r.1; is = r.2; rate = a.by_id f.id ∙ same ∙ own }

  pub unlimited_by_id : UnlimitedByIdWhereUncapped cmp
  unlimited_by_id caps flows m of distinct a f contained =
      let h = in_from_contains flows f contained in
      let s = said caps of flows m distinct a in
      let r = rated_at caps of flows m distinct a f h in
      let p : (i : ℕ) × (slice_get s.all i ≡ Some r.x) = get_in s.all r.x r.among in
      let at : slice_get flows p.0 ≡ Some f =
      subst (λ (fs : List (Flow P)). slice_get fs p.0 ≡ Some f) s.flows_are (get_flow s.all p.0 r.x f p.1 r.is) in
      let rate : slice_get a.rates p.0 ≡ Some r.x.rate = search (rules, rate_there) in
      let same : m f.id ≡ slice_get a.rates p.0 = r.rate ∙ sym rate in
      subst (λ (o : Option Rate). (o ≡ Some Unlimited) ↔ UsesNoCap caps f) (sym same)
      (unlimited_where_uncapped cmp order caps flows a.rates of a.fair p.0 f at)
    where
      get_flow : (xs : List (Allotted P)) (i : ℕ) (x : Allotted P) (g : Flow P) → slice_get xs i ≡ Some x → x.flow ≡ g
          → slice_get (flows_of xs) i ≡ Some g
      get_flow xs i x g at is = slice_get-map (λ (x : Allotted P). x.flow) xs i ∙ (rw at (ap Some is))

  pub others_do_not_matter : OthersDoNotMatter cmp
  others_do_not_matter caps peers flows m n of distinct ends a b f contained =
      let mine = is_of_set cmp peers in
      let own = filter mine flows in
      let h = from_filter mine flows f (in_from_contains own f contained) in
      let s = said caps of flows m distinct a in
      let r = rated_at caps of flows m distinct a f h.0 in
      let xs = part cmp caps mine s.all in
      let among : In xs r.x = search (rules, in_filter) in
      let flows_is : flows_of xs ≡ own = flows_of_part cmp caps mine s.all ∙ ap (filter mine) s.flows_are in
      let rates_is : rates_of xs ≡ flagged (map mine flows) a.rates = search (rules, rates_of_part) in
      let kept_fair = part_is_fair cmp order caps peers flows a.rates of ends a.fair in
      let one : b.rates ≡ flagged (map mine flows) a.rates = search (rules, one_allocation) in
      let few : HaveDistinctIds own = λ id. omega (arith, distinct id, count_by-filter (has id) mine flows) in
      let rate = rate_by_id xs r.x (subst HaveDistinctIds (sym flows_is) few) among in
      b.by_id f.id
      ∙ ap₂ (λ (fs : List (Flow P)) (rs : List Rate). last_rate f.id fs rs) (sym flows_is) (one ∙ sym rates_is)
      ∙ ap (λ (g : Flow P). last_rate g.id (flows_of xs) (rates_of xs)) (sym r.is) ∙ rate ∙ sym r.rate
