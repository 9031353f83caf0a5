use Rattle.link_laws.proofs.Laws.DoneAlone.{is_sent, is_done_alone}
use Rattle.link_laws.proofs.model.meanings.what_is_done_after_a_time_is_done_alone.Goals as goal

pub returns-clause-sent : goal.returns-clause-sent
returns-clause-sent g c = is_sent g.P.Ord.cmp g.met.P.Ord.total

pub returns-clause-done : goal.returns-clause-done
returns-clause-done g c = is_done_alone g.P.Ord.cmp g.met.P.Ord.total
