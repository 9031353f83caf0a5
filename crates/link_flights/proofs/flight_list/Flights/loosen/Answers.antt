use Rattle.link_flights.proofs.Common.{◌≡◌, Contains, map, get_or, sym, ap, ◌∙◌, subst, get_or_default, message_of}
use Rattle.link_flights.proofs.Common.{Flight, flight_at, IsNoMore}
use Rattle.link_flights.proofs.Flights.Loose.{listed_with, still_listed}
use Rattle.link_flights.proofs.flight_list.Flights.loosen.Goals as goal

pub returns-clause-here : goal.returns-clause-here
returns-clause-here g c d rated =
    let old = c.args.self.now in
    let low = c.lower_floor.new.self in
    let floor = c.in_ok-lower_floor.ensures in
    let one = c.at.result.now in
    let same : get_or low.list.items c.args.at d ≡ get_or old.list.items c.args.at d =
    ap (λ l. get_or l c.args.at d) c.lower_floor.ensures.list in
    let there : one ≡ get_or low.list.items c.args.at d =
    c.at.ensures ∙ get_or_default low.list.items c.args.at one d (rw c.lower_floor.ensures.list c.requires.place) in
    let message : c.in_ok-message.message.value ≡ one.message.value =
    c.in_ok-message.ensures.cases in (
      subst (λ m. Contains (map (λ n. message_of n) c.push.new.self) (message_of m))
          (message ∙ ap (λ (f : Flight g.row.P.Denot). f.message.value) there)
          (listed_with low.loose c.push.new.self c.in_ok-message.message.value c.in_ok-push.ensures),
      subst (λ (f : Flight g.row.P.Denot). IsNoMore low.floor (flight_at low.at f).rate) (sym same)
          (floor.lowered d (ap (λ (f : Flight g.row.P.Denot). f.rated) (sym same) ∙ rated)),
    )

pub returns-clause-still : goal.returns-clause-still
returns-clause-still g c = record {
  list = c.lower_floor.ensures.list;
  scale = c.lower_floor.ensures.scale;
  at = c.lower_floor.ensures.at;
  still = λ u h. (
    still_listed c.lower_floor.new.self.loose c.push.new.self c.in_ok-message.message.value c.in_ok-push.ensures
        (message_of u.message) (subst (λ l. Contains (map (λ n. message_of n) l) (message_of u.message)) (sym c.lower_floor.ensures.loose) h.0),
    c.in_ok-lower_floor.ensures.lower u.rate h.1,
  );
}
