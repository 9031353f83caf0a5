use Rattle.link_simulation.proofs.Laws.ConservedAlike.{goes_conserved, none_conserved, conserved_then}
use Rattle.link_laws.proofs.model.orderly.calls_lose_no_message.Goals as goal

pub returns-clause-call : goal.returns-clause-call
returns-clause-call g c = goes_conserved g.P.Ord.cmp g.met.P.Ord.total

pub returns-clause-none : goal.returns-clause-none
returns-clause-none g c = none_conserved g.P.Ord.cmp g.met.P.Ord.total

pub returns-clause-on : goal.returns-clause-on
returns-clause-on g c = conserved_then g.P.Ord.cmp g.met.P.Ord.total
