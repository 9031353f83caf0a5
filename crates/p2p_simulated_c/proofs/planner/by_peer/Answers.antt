use Rattle.p2p_simulated_c.proofs.Planning.{peer_stored}
use Rattle.p2p_simulated_c.proofs.planner.by_peer.Goals as goal

pub loop-record-preserved : goal.loop-record-preserved
loop-record-preserved c peer =
    peer_stored c.args.records.now c.loop-record.record-index _ peer c.get.result _ _ c.loop-record-test.true
    c.get.ensures (c.in_ok-insert.ensures.updates.0 peer) (c.loop-record.invariant peer)
