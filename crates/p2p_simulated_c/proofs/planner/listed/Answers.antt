use Rattle.p2p_simulated_c.proofs.Common.{◌∷◌, ◌++◌, [], take, map, sym, ap, ap₂, ◌∙◌, take_more, map-append, flow_of}
use Rattle.p2p_simulated_c.proofs.planner.listed.Goals as goal

pub loop-record-preserved : goal.loop-record-preserved
loop-record-preserved c =
    let done = take c.loop-record.record-index c.args.records.now in
    c.in_ok-push.ensures.items ∙ ap₂ (λ fs f. fs ++ f ∷ []) c.loop-record.invariant c.get.ensures
    ∙ sym (map-append flow_of done (_ ∷ []))
    ∙ ap (map flow_of) (sym (take_more c.args.records.now c.loop-record.record-index _ c.loop-record-test.true))
