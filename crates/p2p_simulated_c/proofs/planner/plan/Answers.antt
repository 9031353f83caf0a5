use Rattle.p2p_simulated_c.proofs.Common.{◌≡◌, map, IfOk, IfErr, subst, ◌∙◌, get, nat_cmp, IsPlan, MayRefusePlan}
use Rattle.p2p_simulated_c.proofs.Common.{caps_of_records, flow_of, caps_in}
use Rattle.p2p_simulated_c.specs.declared.planner.Caps.{Caps}
use Rattle.p2p_simulated_c.proofs.Planning.{same_caps}
use Rattle.p2p_simulated_c.proofs.planner.plan.Goals as goal

pub returns-clause-plan : goal.returns-clause-plan
returns-clause-plan c =
    let kept : Caps =
    record {
      egress = c.in_ok-by_peer.field-0;
      ingress = c.in_ok-by_peer-2.field-0;
      links = c.in_ok-by_link.field-0;
    } in
    let caps : caps_in kept ≡ caps_of_records c.args.egress.now c.args.ingress.now c.args.links.now =
    same_caps kept c.args.egress.now c.args.ingress.now c.args.links.now c.in_ok-by_peer.ensures.caps
    c.in_ok-by_peer-2.ensures.caps c.in_ok-by_link.ensures.caps in
    let flows : c.deref.result.now ≡ map flow_of c.args.flows.now =
    c.deref.ensures.value ∙ c.in_ok-flows.ensures.flows in
    subst
    (λ fs. IfOk c.rates.result
    (λ planned. IsPlan (caps_of_records c.args.egress.now c.args.ingress.now c.args.links.now) fs
    (get nat_cmp planned.0) planned.1))
    flows
    (subst (λ under. IfOk c.rates.result (λ planned. IsPlan under c.deref.result.now (get nat_cmp planned.0) planned.1))
    caps c.rates.ensures.plan)

pub returns-clause-refused : goal.returns-clause-refused
returns-clause-refused c =
    let kept : Caps =
    record {
      egress = c.in_ok-by_peer.field-0;
      ingress = c.in_ok-by_peer-2.field-0;
      links = c.in_ok-by_link.field-0;
    } in
    let caps : caps_in kept ≡ caps_of_records c.args.egress.now c.args.ingress.now c.args.links.now =
    same_caps kept c.args.egress.now c.args.ingress.now c.args.links.now c.in_ok-by_peer.ensures.caps
    c.in_ok-by_peer-2.ensures.caps c.in_ok-by_link.ensures.caps in
    let flows : c.deref.result.now ≡ map flow_of c.args.flows.now =
    c.deref.ensures.value ∙ c.in_ok-flows.ensures.flows in
    subst
    (λ fs. IfErr c.rates.result
    (MayRefusePlan (caps_of_records c.args.egress.now c.args.ingress.now c.args.links.now) fs))
    flows
    (subst (λ under. IfErr c.rates.result (MayRefusePlan under c.deref.result.now)) caps c.rates.ensures.refused)
