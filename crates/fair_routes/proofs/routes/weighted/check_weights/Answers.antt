use Rattle.fair_routes.proofs.Common.{◌<◌, All, subst, arith, take_all, All-more}
use Rattle.fair_routes.proofs.routes.weighted.check_weights.Goals as goal

pub loop-flow-preserved : goal.loop-flow-preserved
loop-flow-preserved c =
    All-more (λ weight. 0 < weight) c.args.weights.now c.loop-flow.flow 0 (omega arith) c.loop-flow.invariant
    (omega (arith, c.if-weight-eq0.false))

pub returns-clause-checked : goal.returns-clause-checked
returns-clause-checked c = record {
  one_each = c.if-weights-flows.false;
  positive = subst (All (λ weight. 0 < weight)) (take_all c.loop-flow.flow c.args.weights.now (omega arith))
      c.loop-flow.invariant;
}
