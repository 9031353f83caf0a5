use Rattle.link_simulation.proofs.Common.{◌≡◌, not, filter, same_pair, turn, ready}
use Rattle.link_simulation.specs.Simulation.Pass.{MayNotStart}
use Rattle.link_simulation.proofs.Simulation.OtherPairs.{Leaves, ends_more, start_settles, ready_without}
use Rattle.link_laws.proofs.model.instants.a_turn_rests_its_pair.Goals as goal

pub returns-clause-may_not : goal.returns-clause-may_not
returns-clause-may_not g c = λ t w m none.
    ends_more g.P.Ord.cmp g.met.P.Ord.total (Leaves g.P.Ord.cmp g.met.P.Ord.total t m w) (MayNotStart g.P.Ord.cmp t m)
    (turn g.P.Ord.cmp t w m) (λ v l. l.rests) (start_settles g.P.Ord.cmp g.met.P.Ord.total t w m none)

pub returns-clause-others : goal.returns-clause-others
returns-clause-others g c = λ t w m none.
    ends_more g.P.Ord.cmp g.met.P.Ord.total (Leaves g.P.Ord.cmp g.met.P.Ord.total t m w)
    (λ v. ready g.P.Ord.cmp t v ≡ filter (λ n. not (same_pair g.P.Ord.cmp m n)) (ready g.P.Ord.cmp t w))
    (turn g.P.Ord.cmp t w m) (λ v l. ready_without g.P.Ord.cmp g.met.P.Ord.total t m w v l)
    (start_settles g.P.Ord.cmp g.met.P.Ord.total t w m none)
