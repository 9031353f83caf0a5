use Rattle.fair_routes.proofs.Common.{◌≡◌, ◌+◌, ◌++◌, ◌∷◌, ℕ, List, [], take, get_or, sym, subst, arith, ◌∙◌, ap}
use Rattle.fair_routes.proofs.Common.{take_more, take_all, IsNumbered}
use Rattle.fair_routes.proofs.Network.Told.{numbered_none, numbered_more, numbered_same, IsPlace}
use Rattle.fair_routes.proofs.routes.network.numbered_route.Goals.{in-Some+in_ok-push, in_default}
use Rattle.fair_routes.proofs.routes.network.numbered_route.Goals as goal

pub loop-link-init : goal.loop-link-init
loop-link-init c =
    subst (IsNumbered c.args.links.now []) (sym c.new-numbered.ensures.items) (numbered_none c.args.links.now)

pub loop-link-preserved : goal.loop-link-preserved
loop-link-preserved c =
    let links = c.args.links.now in
    let route = c.args.route.now in
    let k = c.loop-link.link-index in
    let link = get_or route k 0 in
    let more : take (k + 1) route ≡ take k route ++ link ∷ [] = take_more route k 0 (omega arith) in
    subst (λ r. IsNumbered links r c.match-place_of.numbered.items) (sym more) (elim c.match-place_of.branch [
      | in-Some+in_ok-push w ↦
          subst (IsNumbered links (take k route ++ link ∷ []))
          (sym (ap (λ v. v.items) w.numbered-is ∙ w.in_ok-push.ensures.items))
          (numbered_more links (take k route) c.loop-link.numbered.items link w.in-Some.place c.loop-link.invariant
          (subst (λ o. IsPlace links o link) w.in-Some.is c.place_of.ensures))
      | in_default w ↦
          subst (IsNumbered links (take k route ++ link ∷ [])) (sym (ap (λ v. v.items) w.numbered-is))
          (numbered_same links (take k route) c.loop-link.numbered.items link c.loop-link.invariant
          (subst (λ o. IsPlace links o link) w.in_default.is c.place_of.ensures))
    ])

pub returns : goal.returns
returns c =
    let all : take c.loop-link.link-index c.args.route.now ≡ c.args.route.now = take_all _ _ (omega arith) in
    subst (λ (r : List ℕ). IsNumbered c.args.links.now r c.loop-link.numbered.items) all c.loop-link.invariant
