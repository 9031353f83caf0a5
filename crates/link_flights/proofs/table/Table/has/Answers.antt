use Rattle.link_flights.proofs.Common.{sym, ap, ◌∙◌, list_any}
use Rattle.link_flights.proofs.Flights.Rows.{kept, any-items, none-items, is_between, is_of_pair, of_pair, no_origin, no_recipient}
use Rattle.link_flights.proofs.table.Table.has.Goals as goal

pub returns-in-Some-Some : goal.returns-in-Some-Some
returns-in-Some-Some g c =
    let table = c.self.inside in
    let rows = table.rows.now in
    let of = is_of_pair g.P.Ord.cmp g.met.P.Ord.total c.args.origin.now c.args.recipient.now in
    c.has_row.ensures
    ∙ any-items (is_between rows c.in-Some-Some.sender c.in-Some-Some.receiver) of rows
    (of_pair g.P.Ord.cmp g.met.P.Ord.total table.numbers c.args.origin.now c.args.recipient.now c.in-Some-Some.sender
    c.in-Some-Some.receiver rows c.self.invariant.now (sym c.number.ensures ∙ c.in-Some-Some.is-0)
    (sym c.number-2.ensures ∙ c.in-Some-Some.is-1))
    ∙ ap (list_any of) (kept table.given_up table.rows c.args.self.now c.self.view_is c.if-self.false)

pub returns-in_default : goal.returns-in_default
returns-in_default g c =
    let table = c.self.inside in
    let of = is_of_pair g.P.Ord.cmp g.met.P.Ord.total c.args.origin.now c.args.recipient.now in
    sym (none-items of table.rows.now
    (no_recipient g.P.Ord.cmp g.met.P.Ord.total table.numbers c.args.origin.now c.args.recipient.now table.rows.now
    c.self.invariant.now (sym c.number-2.ensures ∙ c.in_default.is-1)))
    ∙ ap (list_any of) (kept table.given_up table.rows c.args.self.now c.self.view_is c.if-self.false)

pub returns-in_default-2 : goal.returns-in_default-2
returns-in_default-2 g c =
    let table = c.self.inside in
    let of = is_of_pair g.P.Ord.cmp g.met.P.Ord.total c.args.origin.now c.args.recipient.now in
    sym (none-items of table.rows.now
    (no_origin g.P.Ord.cmp g.met.P.Ord.total table.numbers c.args.origin.now c.args.recipient.now table.rows.now
    c.self.invariant.now (sym c.number.ensures ∙ c.in_default.is-0)))
    ∙ ap (list_any of) (kept table.given_up table.rows c.args.self.now c.self.view_is c.if-self.false)
