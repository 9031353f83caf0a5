use Rattle.link_simulation.proofs.Laws.ConservedCount.{all_counted}
use Rattle.link_laws.proofs.model.orderly.each_message_is_counted_once.Goals as goal

pub returns : goal.returns
returns g c = all_counted g.P.Ord.cmp g.met.P.Ord.total
