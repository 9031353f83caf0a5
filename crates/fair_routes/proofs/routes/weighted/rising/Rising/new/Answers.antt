use Rattle.fair_routes.proofs.Common.{[], ◌∷◌, ◌≡◌, ◌++◌, ℕ, List, Option, None, ap, ◌∙◌, replicate, arith}
use Rattle.fair_routes.proofs.Common.{replicate-append-replicate}
use Rattle.fair_routes.proofs.routes.weighted.rising.Rising.new.Goals as goal

pub loop-preserved : goal.loop-preserved
loop-preserved c =
    let none : Option ℕ = None in
    c.in_ok-push.ensures.items ∙ ap (λ (xs : List (Option ℕ)). xs ++ none ∷ []) c.loop.invariant
    ∙ replicate-append-replicate c.loop.counter 1 none

pub returns-clause-parts : goal.returns-clause-parts
returns-clause-parts c =
    let all : c.loop.counter ≡ c.args.flows = omega arith in
    c.loop.invariant ∙ ap (λ (n : ℕ). let none : Option ℕ = None in replicate n none) all
