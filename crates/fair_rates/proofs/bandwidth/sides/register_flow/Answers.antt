use Rattle.fair_rates.proofs.Common.{subst, sym, FindsSides, Answered}
use Rattle.fair_rates.proofs.Sides.Asking.{registers_it, registers_nothing, registers_all}
use Rattle.fair_rates.proofs.bandwidth.sides.register_flow.Goals.{then-flow+in_ok-recipient, else-flow}
use Rattle.fair_rates.proofs.bandwidth.sides.register_flow.Goals as goal

pub register-requires-then-flow : goal.register-requires-then-flow
register-requires-then-flow g c = c.in_ok-sender.ensures.registers.finds

pub register_link-requires : goal.register_link-requires
register_link-requires g c =
    elim c.if-flow.branch [
      | then-flow+in_ok-recipient w ↦ subst (FindsSides g.P.Ord.cmp) (sym w.registry-is)
          w.in_ok-recipient.ensures.registers.finds
      | else-flow w ↦ subst (FindsSides g.P.Ord.cmp) (sym w.registry-is) c.in_ok-sender.ensures.registers.finds
    ]

pub returns-clause-registers : goal.returns-clause-registers
returns-clause-registers g c =
    let cmp = g.P.Ord.cmp in
    let flow = c.args.flow.now in
    let n = c.args.place in
    let a : Answered g.row.P.Denot = record {
      flow = flow;
      egress = c.args.caps.egress;
      ingress = c.args.caps.ingress;
      link = c.args.caps.link;
    } in
    let first = c.in_ok-sender.ensures.registers in
    let one = c.register.new.registry in
    registers_all cmp n a c.args.registry.now one c.if-flow.registry c.register_link.new.registry first
    (elim c.if-flow.branch [
      | then-flow+in_ok-recipient w ↦ registers_it cmp n a flow.delivered one w.register-then-flow.new.registry
          c.if-flow.registry w.if-flow.true w.registry-is w.in_ok-recipient.ensures.registers
      | else-flow w ↦ registers_nothing cmp n a flow.delivered one c.if-flow.registry w.if-flow.false w.registry-is
          first.finds
    ])
    c.in_ok-link.ensures.registers
