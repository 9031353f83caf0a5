use Rattle.p2p_simulated_c.proofs.Planning.{link_stored}
use Rattle.p2p_simulated_c.proofs.planner.by_link.Goals as goal

pub loop-record-preserved : goal.loop-record-preserved
loop-record-preserved c origin recipient =
    link_stored c.args.records.now c.loop-record.record-index _ origin recipient c.get.result _ _
    c.loop-record-test.true c.get.ensures (c.in_ok-insert.ensures.updates.0 (origin, recipient))
    (c.loop-record.invariant origin recipient)
