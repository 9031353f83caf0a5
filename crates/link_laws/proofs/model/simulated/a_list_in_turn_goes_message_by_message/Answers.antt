use Rattle.link_simulation.proofs.Laws.TurnByNext.{rest_in_turn, runs_as_one}
use Rattle.link_laws.proofs.model.simulated.a_list_in_turn_goes_message_by_message.Goals as goal

pub returns-clause-first : goal.returns-clause-first
returns-clause-first g c w now m ms turn = turn

pub returns-clause-rest : goal.returns-clause-rest
returns-clause-rest g c = rest_in_turn g.P.Ord.cmp g.met.P.Ord.total

pub returns-clause-runs : goal.returns-clause-runs
returns-clause-runs g c = runs_as_one g.P.Ord.cmp g.met.P.Ord.total
