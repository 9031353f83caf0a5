use Rattle.fair_routes.proofs.Common.{◌≡◌, ◌<◌, ℕ, List, map, sym, ap, ap₂, ◌∙◌, subst, Some, AllZip, zip, IsNumbered}
use Rattle.fair_routes.proofs.Common.{IsWeightRefusal, keys, values, AllPairs, told_routes, told_weights, AreRatesTold}
use Rattle.fair_routes.proofs.Common.{MayRefuseTold, IsWeightedAllocation}
use Rattle.std.proofs.Common.{Vec, Global}
use Rattle.std.proofs.lemmas.List.Kept.{AllPairs-from_increasing}
use Rattle.std.proofs.lemmas.Map.Keys.{IsStrictlyIncreasing-from_sorted}
use Rattle.fair_routes.proofs.Network.Told.{rates_told, refusal_told}
use Rattle.fair_routes.proofs.routes.network.Network.rates.Goals as goal

abbrev items : Vec ℕ Global → List ℕ
items v = v.items

pub numbered_routes-requires : goal.numbered_routes-requires
numbered_routes-requires c =
    let n = c.args.self.now in
    subst (AllPairs (λ one other. one < other)) (sym (c.deref.ensures.value ∙ c.in_ok-links.ensures.links))
    (AllPairs-from_increasing (keys n.caps) (IsStrictlyIncreasing-from_sorted (keys n.caps) c.links.ensures.ordered))

pub returns-in-Ok-clause-fair : goal.returns-in-Ok-clause-fair
returns-in-Ok-clause-fair c =
    let n = c.args.self.now in
    let numbered = map items c.in_ok-routes.routes.items in
    let all : AllZip (IsNumbered (keys n.caps)) (told_routes n) numbered =
    subst (λ links. AllZip (IsNumbered links) (told_routes n) numbered)
    (c.deref.ensures.value ∙ c.in_ok-links.ensures.links) c.in_ok-routes.ensures in
    let routes_are : map items c.deref-2.result.now ≡ numbered = ap (map items) c.deref-2.ensures.value in
    let weights_are : c.deref-3.result.now ≡ told_weights n = c.deref-3.ensures.value ∙ c.in_ok-weights.ensures in
    let caps_are : c.deref-4.result.now ≡ map Some (values n.caps) = c.deref-4.ensures.value ∙ c.in_ok-caps.ensures in
    let is : IsWeightedAllocation (map Some (values n.caps)) numbered (told_weights n) c.in-Ok.rates.items =
    subst (λ caps. IsWeightedAllocation caps numbered (told_weights n) c.in-Ok.rates.items) caps_are
    (subst (λ routes. IsWeightedAllocation c.deref-4.result.now routes (told_weights n) c.in-Ok.rates.items) routes_are
    (subst (λ ws. IsWeightedAllocation c.deref-4.result.now (map items c.deref-2.result.now) ws c.in-Ok.rates.items)
    weights_are c.in-Ok.ensures.fair)) in
    let are = c.in_ok-rated-in-Ok.ensures ∙ ap₂ (λ fs rs. zip fs rs) (c.deref-in-Ok.ensures.value ∙ c.in_ok-flows.ensures)
    c.deref-in-Ok-2.ensures.value in
    subst (AreRatesTold n) (sym are) (rates_told n numbered all c.in-Ok.rates.items is)

pub returns-clause-refused : goal.returns-clause-refused
returns-clause-refused c =
    let n = c.args.self.now in
    let numbered = map items c.in_ok-routes.routes.items in
    let all : AllZip (IsNumbered (keys n.caps)) (told_routes n) numbered =
    subst (λ links. AllZip (IsNumbered links) (told_routes n) numbered)
    (c.deref.ensures.value ∙ c.in_ok-links.ensures.links) c.in_ok-routes.ensures in
    let routes_are : map items c.deref-2.result.now ≡ numbered = ap (map items) c.deref-2.ensures.value in
    let weights_are : c.deref-3.result.now ≡ told_weights n = c.deref-3.ensures.value ∙ c.in_ok-weights.ensures in
    let caps_are : c.deref-4.result.now ≡ map Some (values n.caps) = c.deref-4.ensures.value ∙ c.in_ok-caps.ensures in
    let is : IsWeightRefusal (map Some (values n.caps)) numbered (told_weights n) c.in-Err.error =
    subst (λ caps. IsWeightRefusal caps numbered (told_weights n) c.in-Err.error) caps_are
    (subst (λ routes. IsWeightRefusal c.deref-4.result.now routes (told_weights n) c.in-Err.error) routes_are
    (subst (λ ws. IsWeightRefusal c.deref-4.result.now (map items c.deref-2.result.now) ws c.in-Err.error)
    weights_are c.in-Err.ensures.refused)) in
    subst (MayRefuseTold n) (sym c.error_alone.ensures) (refusal_told n numbered all c.in-Err.error is)
