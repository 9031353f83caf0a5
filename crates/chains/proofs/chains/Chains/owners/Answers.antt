use Rattle.chains.proofs.Common.{◌<◌, ◌∙◌, ℕ, sym, ap, subst, Versions, owner_of, Table, now_of}
use Rattle.chains.proofs.Views.{owner_is}
use Rattle.chains.proofs.chains.Chains.owners.Goals as goal

pub returns-clause-all : goal.returns-clause-all
returns-clause-all c = λ owner row there.
    let t : Table = now_of c.self.inside.tables in
    subst (λ (n : ℕ). owner < n) (sym c.len.ensures.items)
    (c.self.invariant.0.owned owner row
    (sym (owner_is t row) ∙ ap (λ (v : Versions). owner_of v.now row) c.self.view_is ∙ there))
