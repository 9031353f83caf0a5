use Rattle.link_simulation.proofs.Common.{turn}
use Rattle.link_simulation.specs.Simulation.Pass.{IsUnchangedFor}
use Rattle.link_simulation.proofs.Simulation.OtherPairs.{Leaves, ends_more, start_settles, others_see_nothing}
use Rattle.link_laws.proofs.model.instants.a_turn_keeps_other_pairs.Goals as goal

pub returns : goal.returns
returns g c = λ t w m k none apart.
    ends_more g.P.Ord.cmp g.met.P.Ord.total (Leaves g.P.Ord.cmp g.met.P.Ord.total t m w)
    (IsUnchangedFor g.P.Ord.cmp k w) (turn g.P.Ord.cmp t w m)
    (λ v l. others_see_nothing g.P.Ord.cmp g.met.P.Ord.total m k w v l.others apart)
    (start_settles g.P.Ord.cmp g.met.P.Ord.total t w m none)
