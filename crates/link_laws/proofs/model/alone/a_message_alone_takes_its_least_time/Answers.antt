use Rattle.link_laws.proofs.Laws.Alone.{alone, delivered_arrives}
use Rattle.link_laws.proofs.model.alone.a_message_alone_takes_its_least_time.Goals as goal

pub returns-clause-done : goal.returns-clause-done
returns-clause-done g c = alone g.P.Ord.cmp g.met.P.Ord.total

pub returns-clause-arrives : goal.returns-clause-arrives
returns-clause-arrives g c = delivered_arrives g.P.Ord.cmp g.met.P.Ord.total
