use Rattle.fair_rates.proofs.Common.{drop, CalledAt, TakesAt, CalledAtTwo, TakesAtTwo, CallableOnEach}
use Rattle.fair_rates.proofs.Common.{CallableOnEachPair, recipients, pairs}
use Rattle.fairness.specs.Sides.Answers.{origins}
use Rattle.fair_rates.proofs.Sides.FlowByFlow.{Passed}
use Rattle.fair_rates.proofs.bandwidth.sides.register_all.Given as goal

abbrev pub invariant-loop-place : goal.invariant-loop-place
invariant-loop-place g l = record {
  egress : CallableOnEach (TakesAt g.E.FnMut) (CalledAt g.E.FnMut) l.egress_cap (origins (drop l.place l.flows));
  ingress : CallableOnEach (TakesAt g.I.FnMut) (CalledAt g.I.FnMut) l.ingress_cap (recipients (drop l.place l.flows));
  link : CallableOnEachPair (TakesAtTwo g.L.FnMut) (CalledAtTwo g.L.FnMut) l.link_cap (pairs (drop l.place l.flows));
  passed : Passed g.P.Ord.cmp (CalledAt g.E.FnMut) (CalledAt g.I.FnMut) (CalledAtTwo g.L.FnMut)
      (record { egress = l.initial.egress_cap; ingress = l.initial.ingress_cap; link = l.initial.link_cap }) l.flows
      l.place
      (record { egress = l.egress_cap; ingress = l.ingress_cap; link = l.link_cap }) l.registry;
}
