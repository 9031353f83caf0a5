use Rattle.link_flights.proofs.Common.{refl, sym, ap, ◌∙◌, product}
use Rattle.link_flights.proofs.Flights.Rerating.{none_there, goes_on}
use Rattle.link_flights.proofs.flight_list.Flights.rerate.Goals as goal

-- nothing changes

pub returns-then-goes_on-clause-rerated : goal.returns-then-goes_on-clause-rerated
returns-then-goes_on-clause-rerated g c =
    let old = c.args.self.now in
    let x = c.at-one.result.now in
    let stays = c.goes_on.ensures in
    let yes = c.if-goes_on.true in
    goes_on old.at (product c.args.growth.now) c.args.rate.now old.list.items c.args.at x
    c.requires.place c.at-one.ensures
    (stays.rated yes) (stays.rate yes)
    (ap product (none_there c.args.growth.now _ refl (sym c.is_empty.ensures ∙ c.if-is_empty.true)))
    (c.requires.timed c.if-were_timed.true)
