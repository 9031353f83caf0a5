use Rattle.link_simulation.proofs.Rule.RepliesInRange.{new_in_range, obeys_in_range, refused_in_range}
use Rattle.link_laws.proofs.model.range.calls_in_the_range_are_not_refused.Goals as goal

pub returns-clause-new : goal.returns-clause-new
returns-clause-new g c = new_in_range

pub returns-clause-kept : goal.returns-clause-kept
returns-clause-kept g c = obeys_in_range g.P.Ord.cmp g.met.P.Ord.total

pub returns-clause-refused : goal.returns-clause-refused
returns-clause-refused g c = refused_in_range g.P.Ord.cmp g.met.P.Ord.total
