use Rattle.link_flights.proofs.Common.{◌≡◌, refl, sym, ap, ◌∙◌, cond, [], false, slice_set, get_or, items_of, IsRow}
use Rattle.link_flights.proofs.Common.{with_item}
use Rattle.std.proofs.lemmas.List.{map-set}
use Rattle.std.proofs.lemmas.List.Elements.{All-set}
use Rattle.link_flights.proofs.Flights.Rows.{on_ok, on_err, taken_back, changed, row_changed, kept, not_given_up, row_seen, of_row, IsAt}
use Rattle.link_flights.proofs.table.Table.set.Given.{Over}
use Rattle.link_flights.proofs.table.Table.set.Goals as goal

pub invariant_of-self : goal.invariant_of-self
invariant_of-self g c =
    taken_back g.P.Ord.cmp c.self.inside.numbers c.self.inside.rows c.set.new.self c.self.invariant
    (on_err c.set.result (sym c.if-is_err.ensures.value) c.set.ensures.taken_back) c.set.ensures.before

up : (g : Over) (c : goal.Else-is_err g) → c.self.inside.given_up ≡ false
up g c = not_given_up c.self.inside.given_up c.self.inside.rows c.args.self.now c.self.view_is c.args.at c.requires.place

here : (g : Over) (c : goal.Else-is_err g) → IsAt c.self.inside.rows.now c.args.at
here g c = (row_seen c.self.inside.given_up c.self.inside.rows c.args.self.now c.self.view_is c.args.at c.requires.place).0

put : (g : Over) (c : goal.Else-is_err g) → c.set.new.self.now
    ≡ slice_set c.self.inside.rows.now c.args.at (with_item c.args.one c.args.one.finish (here g c).row)
put g c = on_ok c.set.result (sym c.if-is_err.ensures.value) (c.set.ensures.now (here g c).row (here g c).get)

same : (g : Over) (c : goal.Else-is_err g) → c.args.one.message.value ≡ (here g c).row.item.message.value
same g c =
    let table = c.self.inside in
    let item = (here g c).row.item in
    c.requires.message item
    ∙ ap (λ items. (get_or items c.args.at item).message.value)
    (sym (kept table.given_up table.rows c.args.self.now c.self.view_is (up g c)))
    ∙ ap (λ one. one.message.value) ((here g c).item_or item)

pub invariant_of-self-else-is_err : goal.invariant_of-self-else-is_err
invariant_of-self-else-is_err g c =
    let table = c.self.inside in
    let cmp = g.P.Ord.cmp in
    let within = (row_seen table.given_up table.rows c.args.self.now c.self.view_is c.args.at c.requires.place).1 in
    changed cmp table.numbers table.rows c.set.new.self _ c.self.invariant
    (All-set (IsRow cmp table.numbers) table.rows.now c.args.at _
    (row_changed cmp table.numbers (here g c).row c.args.one c.args.one.finish
    (of_row (IsRow cmp table.numbers) table.rows.now c.args.at within (here g c) c.self.invariant.now)
    (same g c) refl)
    c.self.invariant.now)
    (put g c) c.set.ensures.before

pub returns-clause-items : goal.returns-clause-items
returns-clause-items g c =
    let table = c.self.inside in
    ap (λ b. cond b [] (items_of c.set.new.self.now)) (up g c)
    ∙ ap items_of (put g c) ∙ map-set (λ row. row.item) table.rows.now c.args.at _
    ∙ ap (λ items. slice_set items c.args.at c.args.one)
    (kept table.given_up table.rows c.args.self.now c.self.view_is (up g c))
