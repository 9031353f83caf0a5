use Rattle.link_simulation.proofs.Simulation.AlikeMessages.{fair_alike}
use Rattle.link_laws.proofs.model.events.alike_messages_have_the_same_rates.Goals as goal

pub returns : goal.returns
returns g c = λ caps others ms ns per rates same all fair.
    fair_alike g.P.Ord.cmp g.met.P.Ord.total caps others same ms ns per rates all fair
