use Rattle.link_simulation.proofs.Rule.SameCourses.{obeys_same}
use Rattle.link_simulation.proofs.Rule.SameRefusals.{refused_same, obeyed_same}
use Rattle.link_simulation.proofs.Rule.SameStands.{stands_same, range_same}
use Rattle.link_laws.proofs.model.same.the_same_worlds_do_the_same.Goals as goal

pub returns-clause-goes : goal.returns-clause-goes
returns-clause-goes g c = obeys_same g.P.Ord.cmp g.met.P.Ord.total

pub returns-clause-refused : goal.returns-clause-refused
returns-clause-refused g c = refused_same g.P.Ord.cmp g.met.P.Ord.total

pub returns-clause-replies : goal.returns-clause-replies
returns-clause-replies g c = obeyed_same g.P.Ord.cmp g.met.P.Ord.total

pub returns-clause-stands : goal.returns-clause-stands
returns-clause-stands g c = stands_same g.P.Ord.cmp g.met.P.Ord.total

pub returns-clause-range : goal.returns-clause-range
returns-clause-range g c = range_same g.P.Ord.cmp g.met.P.Ord.total
