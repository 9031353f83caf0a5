use Rattle.link_flights.proofs.Common.{◌≡◌, ◌<◌, length, get_or, sym, subst, arith, reduced, RatedFlight, flight_at}
use Rattle.link_flights.proofs.Common.{rated_flight_of, in_flight, IsReadAs, IsReadingOf}
use Rattle.fairness.proofs.Lists.Copied.{copied_more, copied_all}
use Rattle.link_flights.proofs.Flights.Standing.{length_in_flight, there_in_flight}
use Rattle.link_flights.proofs.flight_list.Flights.read.Goals as goal

pub loop-at-preserved : goal.loop-at-preserved
loop-at-preserved g c =
    let self = c.args.self.now in
    let at = c.loop-at.at in
    let one = c.at-one.result.now in
    let reading = c.in_ok-read_one.field-0 in
    let read : RatedFlight g.row.P.Denot = rated_flight_of self.scale (flight_at self.at one) in
    let inside : at < length self.list.items =
    omega (arith, c.loop-at-test.true, c.len-at-end.ensures) in
    let one_is : one ≡ get_or self.list.items at one = c.at-one.ensures in
    let there : read ≡ get_or (in_flight self) at read =
    sym (there_in_flight self.scale self.at self.list.items at one read inside one_is) in
    let here : IsReadAs g.P.Ord.cmp read reading = record {
      origin = c.in_ok-read_one.ensures.origin;
      recipient = c.in_ok-read_one.ensures.recipient;
      channel = c.in_ok-read_one.ensures.channel;
      left =
          subst (λ n. IsReadingOf (reduced (flight_at self.at one).left n) reading.left)
          c.in_ok-unit.ensures.value c.in_ok-read_one.ensures.left;
      rate = c.in_ok-read_one.ensures.rate;
      since = c.in_ok-read_one.ensures.since;
    } in
    rw c.in_ok-push.ensures.items
    (copied_more (IsReadAs g.P.Ord.cmp) (in_flight self) c.loop-at.readings.items at read reading
    (omega (arith, inside, length_in_flight self.scale self.at self.list.items)) there c.loop-at.invariant here)

pub returns-clause-read : goal.returns-clause-read
returns-clause-read g c =
    let self = c.args.self.now in
    copied_all (IsReadAs g.P.Ord.cmp) (in_flight self) c.loop-at.readings.items c.loop-at.at
    (omega (
      arith,
      length_in_flight self.scale self.at self.list.items,
      c.loop-at-test.false,
      c.len-at-end.ensures,
    ))
    c.loop-at.invariant
