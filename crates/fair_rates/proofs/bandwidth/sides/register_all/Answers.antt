use Rattle.fair_rates.proofs.Common.{refl, [], ◌∙◌, ◌≡◌, arith, take, CalledAt, TakesAt, CalledAtTwo, TakesAtTwo}
use Rattle.fair_rates.proofs.Common.{take_all, Answered}
use Rattle.fair_rates.proofs.Sides.Registry.{finds_sides}
use Rattle.fair_rates.proofs.Sides.FlowByFlow.{passed, origin_next, recipient_next, pair_next}
use Rattle.fair_rates.proofs.bandwidth.sides.register_all.Goals as goal

pub loop-place-init : goal.loop-place-init
loop-place-init g c = record {
  egress = c.requires.egress;
  ingress = c.requires.ingress;
  link = c.requires.link;
  passed = record { answered = []; count = refl; flows_are = refl; calls = refl; registered = c.requires.none };
}

pub egress_cap-egress-requires : goal.egress_cap-egress-requires
egress_cap-egress-requires g c =
    (origin_next (TakesAt g.E.FnMut) (CalledAt g.E.FnMut) c.loop-place.egress_cap c.args.flows.now c.loop-place.place
    c.index-flows-place.result (omega arith) c.index-flows-place.is c.loop-place.invariant.egress).0 _ refl

pub link_cap-link-requires : goal.link_cap-link-requires
link_cap-link-requires g c =
    (pair_next (TakesAtTwo g.L.FnMut) (CalledAtTwo g.L.FnMut) c.loop-place.link_cap c.args.flows.now c.loop-place.place
    c.index-flows-place.result (omega arith) c.index-flows-place.is c.loop-place.invariant.link).0 _ _ refl refl

pub register_flow-requires : goal.register_flow-requires
register_flow-requires g c =
    finds_sides g.P.Ord.cmp g.met.P.Ord.total _ c.loop-place.registry c.loop-place.invariant.passed.registered

pub loop-place-preserved : goal.loop-place-preserved
loop-place-preserved g c =
    let n = c.loop-place.place in
    let flow = c.index-flows-place.result in
    let inv = c.loop-place.invariant in
    let a : Answered g.row.P.Denot = record {
      flow = flow;
      egress = c.egress_cap-egress.result;
      ingress = c.ingress_of-ingress.result;
      link = c.link_cap-link.result;
    } in
    let egress_call : CalledAt g.E.FnMut c.loop-place.egress_cap flow.origin a.egress c.egress_cap-egress.new.self =
    record { shown = _; shows = refl; called = c.egress_cap-egress.ensures } in
    let link_call : CalledAtTwo g.L.FnMut c.loop-place.link_cap flow.origin flow.recipient a.link
    c.link_cap-link.new.self =
    record { first = _; second = _; shows = (refl, refl); called = c.link_cap-link.ensures } in
    record {
      egress = (origin_next (TakesAt g.E.FnMut) (CalledAt g.E.FnMut) c.loop-place.egress_cap c.args.flows.now n flow
          (omega arith) c.index-flows-place.is inv.egress).1 _ _ egress_call;
      ingress =
          recipient_next (TakesAt g.I.FnMut) (CalledAt g.I.FnMut) c.loop-place.ingress_cap c.args.flows.now n flow
          (omega arith) c.index-flows-place.is inv.ingress a.ingress c.ingress_of-ingress.new.ingress_cap
          c.ingress_of-ingress.ensures;
      link = (pair_next (TakesAtTwo g.L.FnMut) (CalledAtTwo g.L.FnMut) c.loop-place.link_cap c.args.flows.now n flow
          (omega arith) c.index-flows-place.is inv.link).1 _ _ link_call;
      passed =
          passed g.P.Ord.cmp (CalledAt g.E.FnMut) (CalledAt g.I.FnMut) (CalledAtTwo g.L.FnMut) n a
          c.loop-place.registry c.register_flow.new.registry c.in_ok-register_flow.ensures.registers
          (record { egress = c.args.egress_cap.now; ingress = c.args.ingress_cap.now; link = c.args.link_cap.now })
          c.args.flows.now (record {
            egress = c.loop-place.egress_cap;
            ingress = c.loop-place.ingress_cap;
            link = c.loop-place.link_cap;
          }) (record {
            egress = c.egress_cap-egress.new.self;
            ingress = c.ingress_of-ingress.new.ingress_cap;
            link = c.link_cap-link.new.self;
          })
          inv.passed (omega arith) c.index-flows-place.is
          (record { origin = egress_call; recipient = c.ingress_of-ingress.ensures; pair = link_call });
    }

pub returns-clause-registered : goal.returns-clause-registered
returns-clause-registered g c =
    let h = c.loop-place.invariant.passed in
    let whole : take c.loop-place.place c.args.flows.now ≡ c.args.flows.now = take_all _ _ (omega arith) in
    (h.answered, record { flows_are = h.flows_are ∙ whole; last = _; calls = h.calls }, h.registered)
