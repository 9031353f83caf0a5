use Rattle.link_flights.proofs.Common.{arith, caps_of}
use Rattle.link_flights.proofs.Flights.Alone.{first_kept, first_left, one_given}
use Rattle.link_flights.proofs.flight_list.Flights.rate_one.Goals as goal

pub rerate-requires-clause-left : goal.rerate-requires-clause-left
rerate-requires-clause-left g c d none =
    let old = c.args.self.now in
    first_left old.at old.list.items d (omega (arith, c.requires.one)) c.requires.left (omega (arith, none))

pub returns-clause-rated : goal.returns-clause-rated
returns-clause-rated g c =
    let cmp = g.P.Ord.cmp in
    let caps = caps_of cmp c.args.peers.now.entries c.args.pairs.now.entries in
    let e = c.in_ok-rerate.ensures in
    let h =
    one_given cmp caps c.args.self.now c.rerate.new.self e.scale e.at c.requires.one c.in_ok-rate.rate
    c.in_ok-rate.ensures.fair e.rerated in
    record { times = h.times; scale = h.scale; at = h.at; each = h.each; fair = h.fair; timed = h.timed }

pub returns-clause-kept : goal.returns-clause-kept
returns-clause-kept g c =
    let new = c.rerate.new.self in
    first_kept new.rated_anew c.args.self.now.list.items new.list.items c.in_ok-rerate.ensures.counted
