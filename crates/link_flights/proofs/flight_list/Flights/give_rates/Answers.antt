use Rattle.link_flights.proofs.Common.{◌∙◌, refl, sym, subst, caps_of}
use Rattle.link_flights.specs.Flights.Rated.{ArePartRated}
use Rattle.link_flights.proofs.Flights.Alone.{none_there, none_given}
use Rattle.link_flights.proofs.flight_list.Flights.give_rates.Goals as goal

pub returns-then-is_empty-clause-rated : goal.returns-then-is_empty-clause-rated
returns-then-is_empty-clause-rated g c =
    let old = c.args.self.now in
    let caps = caps_of g.P.Ord.cmp c.args.peers.now.entries c.args.pairs.now.entries in
    let none = none_there old.list.items (sym c.is_empty.ensures ∙ c.if-is_empty.true) in
    let h = none_given g.P.Ord.cmp caps old old refl refl none refl in
    record { times = h.times; scale = h.scale; at = h.at; each = h.each; fair = h.fair; timed = h.timed }

pub returns-in-Some-clause-rated : goal.returns-in-Some-clause-rated
returns-in-Some-clause-rated g c =
    let cmp = g.P.Ord.cmp in
    let caps = caps_of cmp c.args.peers.now.entries c.args.pairs.now.entries in
    let h = (subst (ArePartRated cmp caps c.args.self.now c.rate_part.new.self) c.in-Some.is
    c.in_ok-unsearched.ensures.given).0 in
    record { times = h.times; scale = h.scale; at = h.at; each = h.each; fair = h.fair; timed = h.timed }

pub rate_one-requires : goal.rate_one-requires
rate_one-requires g c = record {
  one = sym c.len.ensures ∙ c.if-len-eq1.true;
  left = c.requires.left;
  timed = c.requires.timed;
}

pub rate_part-requires : goal.rate_part-requires
rate_part-requires g c = record {
  left = c.requires.left;
  updated = c.requires.updated;
  before = c.requires.before c.if-were_rated.true;
  timed = c.requires.timed c.if-were_rated.true;
  one_each = c.requires.one_each;
}
