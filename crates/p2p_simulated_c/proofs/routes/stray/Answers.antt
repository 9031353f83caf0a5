use Rattle.p2p_simulated_c.proofs.Common.{◌<◌, All, subst, arith, take_all, Hop}
use Rattle.std.proofs.lemmas.List.Elements.{All-more}
use Rattle.p2p_simulated_c.proofs.routes.stray.Goals as goal

pub loop-hop-preserved : goal.loop-hop-preserved
loop-hop-preserved c =
    let none : Hop = record { flow = 0; link = 0 } in
    All-more (λ (hop : Hop). hop.flow < c.args.flows) c.args.hops.now c.loop-hop.hop-index none
    (omega (arith, c.loop-hop-test.true)) c.loop-hop.invariant (omega (arith, c.if-hop-flows.false))

pub returns : goal.returns
returns c =
    subst (All (λ (hop : Hop). hop.flow < c.args.flows))
    (take_all c.loop-hop.hop-index c.args.hops.now (omega (arith, c.loop-hop-test.false))) c.loop-hop.invariant
