use Rattle.link_flights.proofs.Common.{rules, ◌≡◌, ◌∷◌, ◌&&◌, [], true, nat_le, ap, ◌∙◌, caps_of, in_units}
use Rattle.link_flights.proofs.Common.{AreRatedBeside, rerated}
use Rattle.link_flights.proofs.flight_list.Flights.rate_only.Goals as goal

pub returns-then-le-clause-gives : goal.returns-then-le-clause-gives
returns-then-le-clause-gives g c =
    let cmp = g.P.Ord.cmp in
    let component = c.args.touched.now in
    let self = c.args.self.now in
    let caps = caps_of cmp c.args.peers.now.entries c.args.pairs.now.entries in
    let e = c.in_ok-set_rates.ensures in
    let reach : nat_le component.level c.in_ok-level.level ≡ true = search rules in
    let rated : AreRatedBeside cmp caps component self c.set_rates.new.self = record {
      rates = c.in_ok-level.level ∷ [];
      fair = c.in_ok-level.ensures.fair;
      reach = ap (λ b. b && true) reach;
      given = e.rerated
          ∙ ap (λ rate. rerated cmp component self.at 1 (rate ∷ []) (in_units self)) c.in_ok-rate.ensures.value;
      scale = e.scale;
      at = e.at;
      timed = e.timed;
    } in (rated, e.kept)

pub left_for-requires : goal.left_for-requires
left_for-requires g c = record {
  only = c.requires.only;
  places = c.requires.places;
  suited = c.requires.suited;
  one_each = c.requires.one_each;
}
