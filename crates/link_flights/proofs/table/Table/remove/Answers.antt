use Rattle.link_flights.proofs.Common.{◌≡◌, sym, ap, ◌∙◌, cond, [], false, remove, items_of}
use Rattle.link_flights.proofs.Flights.Rows.{on_ok, on_err, taken_back, changed, all_removed, items_removed, kept, not_given_up}
use Rattle.link_flights.proofs.table.Table.remove.Given.{Over}
use Rattle.link_flights.proofs.table.Table.remove.Goals as goal

pub invariant_of-self : goal.invariant_of-self
invariant_of-self g c =
    taken_back g.P.Ord.cmp c.self.inside.numbers c.self.inside.rows c.take.new.self c.self.invariant
    (on_err c.take.result (sym c.if-is_err.ensures.value) c.take.ensures.taken_back) c.take.ensures.before

taken : (g : Over) (c : goal.Else-is_err g) → c.take.new.self.now ≡ remove c.self.inside.rows.now c.args.at
taken g c = on_ok c.take.result (sym c.if-is_err.ensures.value) c.take.ensures.now

pub invariant_of-self-else-is_err : goal.invariant_of-self-else-is_err
invariant_of-self-else-is_err g c =
    changed g.P.Ord.cmp c.self.inside.numbers c.self.inside.rows c.take.new.self _ c.self.invariant
    (all_removed g.P.Ord.cmp c.self.inside.numbers c.self.inside.rows.now c.args.at c.self.invariant.now)
    (taken g c) c.take.ensures.before

pub returns-clause-items : goal.returns-clause-items
returns-clause-items g c =
    let table = c.self.inside in
    let up : table.given_up ≡ false = not_given_up table.given_up table.rows c.args.self.now c.self.view_is c.args.at c.requires in
    ap (λ b. cond b [] (items_of c.take.new.self.now)) up
    ∙ ap items_of (taken g c) ∙ items_removed table.rows.now c.args.at
    ∙ ap (λ items. remove items c.args.at) (kept table.given_up table.rows c.args.self.now c.self.view_is up)
