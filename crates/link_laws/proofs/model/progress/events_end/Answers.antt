use Rattle.std.proofs.Math.Logic.{∥∥₁_elim}
use Rattle.std.proofs.Math.Bridge.{le_prop}
use Rattle.link_laws.proofs.Laws.FewerEvents.{counted_events, advance_falls}
use Rattle.link_laws.proofs.model.progress.events_end.Goals as goal

pub returns-clause-counted : goal.returns-clause-counted
returns-clause-counted g c = λ p q now events cs right goes.
    ∥∥₁_elim right le_prop (λ planned. counted_events g.P.Ord.cmp g.met.P.Ord.total p q now events cs planned goes)

pub returns-clause-falls : goal.returns-clause-falls
returns-clause-falls g c = λ p q now cs right next goes.
    ∥∥₁_elim right le_prop (λ planned. advance_falls g.P.Ord.cmp g.met.P.Ord.total p q now cs planned next goes)
