use Rattle.link_simulation.proofs.Common.{◌≡◌, ℕ, ◌+◌, length, true, subst, arith}
use Rattle.std.proofs.Common.{take}
use Rattle.std.proofs.lemmas.List.{take_all}
use Rattle.link_laws.proofs.model.meanings.what_holds_so_far_holds_of_all.Goals as goal

pub returns-clause-all : goal.returns-clause-all
returns-clause-all g c law calls replies holds =
    let n : ℕ = length calls + length replies in
    subst (λ rs. law calls rs ≡ true) (take_all n replies (omega arith))
    (subst (λ cs. law cs (take n replies) ≡ true) (take_all n calls (omega arith)) (holds n))

pub returns-clause-first : goal.returns-clause-first
returns-clause-first g c law calls replies n holds = holds n
