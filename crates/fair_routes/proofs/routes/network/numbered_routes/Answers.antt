use Rattle.fair_routes.proofs.Common.{◌++◌, ◌∷◌, ℕ, List, [], map, sym, ap, ◌∙◌, subst, map-append, AllZip}
use Rattle.fair_routes.proofs.Common.{IsNumbered, deref}
use Rattle.std.proofs.Common.{Vec, Global}
use Rattle.fairness.proofs.Lists.Zips.{zip-push}
use Rattle.fair_routes.proofs.routes.network.numbered_routes.Goals as goal

abbrev items : Vec ℕ Global → List ℕ
items v = v.items

pub loop-route-preserved : goal.loop-route-preserved
loop-route-preserved c =
    let R = IsNumbered c.args.links.now in
    let route = c.in-Some.route in
    let own = c.in_ok-numbered_route.field-0 in
    let before = map items (map deref c.loop-route.yielded) in
    let left = ap (map items) (map-append deref c.loop-route.yielded (route ∷ [])) ∙ map-append items
    (map deref c.loop-route.yielded) (route.now ∷ []) in
    let right = ap (map items) c.in_ok-push.ensures.items ∙ map-append items c.loop-route.numbered.items (own ∷ []) in
    subst (λ xs. AllZip R xs (map items c.push.new.self.items)) (sym left)
    (subst (AllZip R (before ++ route.now.items ∷ [])) (sym right)
    (zip-push R before (map items c.loop-route.numbered.items) route.now.items own.items c.loop-route.invariant
    (subst (λ r. R r own.items) c.deref.ensures.value c.in_ok-numbered_route.ensures)))
