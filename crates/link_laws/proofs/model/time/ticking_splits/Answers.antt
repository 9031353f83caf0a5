use Rattle.link_simulation.proofs.Common.{refl}
use Rattle.link_simulation.proofs.Simulation.Split.{ticks_apart, ticks_both}
use Rattle.link_laws.proofs.model.time.ticking_splits.Goals as goal

pub returns : goal.returns
returns g c = λ a b w course.
    (λ t. ticks_apart g.P.Ord.cmp t a b refl, λ parts. ticks_both g.P.Ord.cmp a b w parts.0 course parts.1 parts.2)
