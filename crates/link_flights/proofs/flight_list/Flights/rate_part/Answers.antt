use Rattle.link_flights.proofs.Common.{second_of_both, ap, subst, caps_of, looked_up}
use Rattle.link_flights.specs.Flights.Rated.{GivesBeside}
use Rattle.link_flights.proofs.Flights.RatesGiven.{beside_given}
use Rattle.link_flights.proofs.flight_list.Flights.rate_part.Goals as goal

pub returns-clause-given : goal.returns-clause-given
returns-clause-given g c =
    let cmp = g.P.Ord.cmp in
    let peers = c.args.peers.now.entries in
    let pairs = c.args.pairs.now.entries in
    let caps = caps_of cmp peers pairs in
    let component = c.find_touched.new.touched in
    let mid = c.rate_touched.new.self in
    let r = subst (GivesBeside cmp caps component _ mid) c.in-Some.is c.in_ok-found.ensures.gives in
    let touched = c.in_ok-find_touched.ensures in
    let h =
    beside_given cmp caps component _ mid r.0 g.met.P.Ord.total (looked_up cmp g.met.P.Ord.total peers pairs)
    c.args.done.now.items touched.closed touched.loose touched.tied c.requires.before touched.level c.requires.updated in (
      record { times = h.times; scale = h.scale; at = h.at; each = h.each; fair = h.fair; timed = h.timed },
      r.1,
    )

pub returns-in_default-clause-given : goal.returns-in_default-clause-given
returns-in_default-clause-given g c =
    let cmp = g.P.Ord.cmp in
    let caps = caps_of cmp c.args.peers.now.entries c.args.pairs.now.entries in
    let same =
    subst (GivesBeside cmp caps c.find_touched.new.touched _ c.rate_touched.new.self) c.in_default.is
    c.in_ok-found.ensures.gives in
    (ap (λ f. f.list) same, ap (λ f. f.scale) same, ap (λ f. f.at) same)

pub rate_touched-requires : goal.rate_touched-requires
rate_touched-requires g c = record {
  near = c.in_ok-find_touched.ensures.near;
  suited = second_of_both _ _ c.in_ok-find_touched.ensures.closed;
  left = c.requires.left;
  timed = c.requires.timed;
  one_each = c.requires.one_each;
}
