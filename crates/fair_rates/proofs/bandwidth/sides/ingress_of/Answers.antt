use Rattle.fair_rates.proofs.Common.{refl, CalledAt}
use Rattle.fair_rates.proofs.Sides.FlowByFlow.{called, not_called}
use Rattle.fair_rates.proofs.bandwidth.sides.ingress_of.Goals as goal

pub returns-then-flow : goal.returns-then-flow
returns-then-flow g c =
    called (CalledAt g.I.FnMut) c.args.ingress_cap.now c.args.flow.now.recipient _ _ c.args.flow.now.delivered _ _
    c.if-flow.true refl refl (record { shown = _; shows = refl; called = c.ingress_cap.ensures })

pub returns-else-flow : goal.returns-else-flow
returns-else-flow g c =
    not_called (CalledAt g.I.FnMut) c.args.ingress_cap.now c.args.flow.now.recipient _ _ c.args.flow.now.delivered
    c.if-flow.false refl refl
