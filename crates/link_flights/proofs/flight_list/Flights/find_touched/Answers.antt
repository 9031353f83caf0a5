use Rattle.link_flights.proofs.Common.{in_units}
use Rattle.link_flights.proofs.Flights.ComponentFlows.{always_ok, closed_whole}
use Rattle.link_flights.proofs.flight_list.Flights.find_touched.Goals as goal

pub returns-then-self-gt0-clause-closed : goal.returns-then-self-gt0-clause-closed
returns-then-self-gt0-clause-closed g c =
    always_ok c.take_all.result
    (closed_whole g.P.Ord.cmp c.take_all.new.all c.take_all.ensures.whole c.args.done.now.items (in_units c.args.self.now))
