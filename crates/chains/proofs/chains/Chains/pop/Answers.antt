use Rattle.std.proofs.lemmas.Grind.{common_steps}
use Rattle.chains.proofs.Common.{◌≡◌, ◌-◌, ◌<◌, ◌∙◌, None, length, sym, ap, subst, arith, length-map, Versions}
use Rattle.chains.proofs.Common.{owner_of, Table, now_of, link_of, rows_in, IsChained}
use Rattle.chains.specs.Chains.{without_last}
use Rattle.chains.specs.Tables.{before_of}
use Rattle.chains.proofs.Popping.{popped_chained, rows_of_popped}
use Rattle.chains.proofs.Views.{owner_in, owner_is}
use Rattle.chains.proofs.chains.Chains.pop.Goals as goal

after : (c : goal.After-pop-arg-1) → length (before_of c.self.inside.tables).links < length (now_of c.self.inside.tables).links
after c = grind (arith, common_steps, length-map)

some : (c : goal.After-pop) → 0 < length (now_of c.self.inside.tables).links
some c = grind (arith, common_steps, length-map)

pub pop-requires : goal.pop-requires
pop-requires c = after c

pub invariant_of-self : goal.invariant_of-self
invariant_of-self c =
    let t : Table = now_of c.self.inside.tables in
    let low = some c in
    let last : length t.links - 1 ≡ length c.args.self.now.now.stands - 1 =
    ap (λ n. n - 1) (sym (length-map t.links owner_in) ∙ ap (λ (v : Versions). length v.now.stands) c.self.view_is) in
    let apart : (link_of t (length t.links - 1)).owner ≡ None =
    sym (owner_is t (length t.links - 1)) ∙ ap (owner_of (rows_in t)) last
    ∙ ap (λ (v : Versions). owner_of v.now (length c.args.self.now.now.stands - 1)) c.self.view_is ∙ c.requires.apart in (
      subst IsChained (sym c.pop.ensures.now) (popped_chained t (omega (arith, low)) apart c.self.invariant.0),
      subst IsChained (sym c.pop.ensures.before) c.self.invariant.1,
    )

pub returns-clause-now : goal.returns-clause-now
returns-clause-now c =
    ap rows_in c.pop.ensures.now ∙ rows_of_popped (now_of c.self.inside.tables)
    ∙ ap (λ (v : Versions). without_last v.now) c.self.view_is
