use Rattle.fair_routes.proofs.Common.{[], ◌∷◌, ◌≡◌, ◌++◌, ℕ, List, ap, ◌∙◌, map, replicate, arith, Global, Vec}
use Rattle.fair_routes.proofs.Common.{map-append, replicate-append-replicate}
use Rattle.fair_routes.proofs.routes.sides.nobody.Goals as goal

pub loop-init : goal.loop-init
loop-init c = ap (λ (vs : List (Vec ℕ Global)). map (λ v. v.items) vs) c.in_ok-users.ensures.items

pub loop-preserved : goal.loop-preserved
loop-preserved c =
    let items : Vec ℕ Global → List ℕ = λ v. v.items in
    ap (map items) c.in_ok-push.ensures.items ∙ map-append items c.loop.users.items (c.new.result ∷ [])
    ∙ ap (λ xs. xs ++ c.new.result.items ∷ []) c.loop.invariant
    ∙ ap (λ (x : List ℕ). replicate c.loop.counter [] ++ x ∷ []) c.new.ensures.items
    ∙ replicate-append-replicate c.loop.counter 1 []

pub returns : goal.returns
returns c =
    let all : c.loop.counter ≡ c.args.links = omega arith in
    c.loop.invariant ∙ ap (λ (n : ℕ). let none : List ℕ = [] in replicate n none) all
