use Rattle.link_flights.proofs.Common.{◌+◌, inr, ap, product}
use Rattle.link_flights.proofs.Flights.Rerating.{put_anew}
use Rattle.link_flights.proofs.flight_list.Flights.put_rerated.Goals as goal

pub returns-clause-rerated : goal.returns-clause-rerated
returns-clause-rerated g c =
    let old = c.args.self.now in
    let x = c.at.result.now in
    let one = c.in_ok-one in
    put_anew old.at (product c.args.growth.now) c.args.rate.now old.list.items c.args.at x
    c.requires.place c.at.ensures one.one c.put.new.self.list.items c.in_ok-put.ensures.list
    one.ensures.id one.ensures.message one.ensures.left
    one.ensures.rate one.ensures.since one.ensures.rated one.ensures.timed

pub returns-clause-counted : goal.returns-clause-counted
returns-clause-counted g c =
    inr (ap (λ n. n + 1) c.in_ok-put.ensures.counted, (c.in_ok-one.one, c.in_ok-put.ensures.list))
