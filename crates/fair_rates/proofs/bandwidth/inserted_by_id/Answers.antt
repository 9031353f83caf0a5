use Rattle.std.proofs.lemmas.Slice.Zip.{Zip-more, either_empty_from_Zip}
use Rattle.fairness.proofs.Fairness.LastRate.{stored, all_stored}
use Rattle.fair_rates.proofs.bandwidth.inserted_by_id.Goals as goal

pub loop-flow-preserved : goal.loop-flow-preserved
loop-flow-preserved g c id =
    let turn =
    Zip-more c.loop-flow.flow-iterator c.next.new.self c.next.result (c.in-Some.flow, c.in-Some.rate) c.in-Some.is
    c.next.ensures.steps in
    stored id c.in-Some.flow.now c.in-Some.rate.now _ _ _ _ _ _ _ turn.0 turn.1 (c.in_ok-insert.ensures.updates.0 id)
    (c.loop-flow.invariant id)

pub returns-clause-by_id : goal.returns-clause-by_id
returns-clause-by_id g c id =
    all_stored id _ _ _ _
    (either_empty_from_Zip c.loop-flow.flow-iterator c.next.new.self c.next.result c.in-None.is c.next.ensures.steps)
    (c.loop-flow.invariant id)
