use Rattle.link_flights.proofs.Common.{rules, ◌≤◌, IfSome, arith, last_moment, caps_of, in_units}
use Rattle.link_flights.proofs.Flights.RatesGiven.{still_given}
use Rattle.link_flights.proofs.Flights.Rerating.{first_finish_is}
use Rattle.link_flights.proofs.Flights.Settled.{all_have_got}
use Rattle.link_flights.proofs.flight_list.Flights.rate.Goals as goal

pub end_account-requires : goal.end_account-requires
end_account-requires g c =
    let old = c.args.self.now in
    let mid = c.give_rates.new.self in
    let h = c.in_ok-unsearched.ensures.rated in
    record { rated = all_have_got old.at h.times mid.at (in_units old) mid.list.items h.each }

pub returns-clause-rated : goal.returns-clause-rated
returns-clause-rated g c =
    let cmp = g.P.Ord.cmp in
    let caps = caps_of cmp c.args.peers.now.entries c.args.pairs.now.entries in
    let e = c.end_account.ensures in
    let k = still_given cmp caps c.args.self.now c.give_rates.new.self c.end_account.new.self e.list e.scale e.at
    c.in_ok-unsearched.ensures.rated in
    record {
      times = k.times;
      scale = k.scale;
      at = k.at;
      each = k.each;
      fair = k.fair;
      timed = k.timed;
    }

pub returns-clause-finish : goal.returns-clause-finish
returns-clause-finish g c =
    let cmp = g.P.Ord.cmp in
    let old = c.args.self.now in
    let caps = caps_of cmp c.args.peers.now.entries c.args.pairs.now.entries in
    let e = c.end_account.ensures in
    let last = c.end_account.new.self in
    let k = still_given cmp caps old c.give_rates.new.self last e.list e.scale e.at c.in_ok-unsearched.ensures.rated in
    let fits : IfSome c.end_account.result (λ t. t ≤ last_moment) = search rules in
    let here : last.at ≤ last_moment = omega (arith, k.at, c.requires.moment) in
    first_finish_is cmp caps old last k c.requires.left here c.end_account.result e.finish fits
