use Rattle.p2p_simulated_c.proofs.Common.{◌≡◌, ◌-◌, length, min, drop, get_or, ap, sym, ◌∙◌, arith, length-map}
use Rattle.p2p_simulated_c.proofs.Common.{get_or-map, records_from}
use Rattle.std.proofs.lemmas.List.{length-drop, get_or-drop}
use Rattle.p2p_simulated_c.specs.Records.{done_of}
use Rattle.p2p_simulated_c.proofs.Copying.{all_written, one_written}
use Rattle.p2p_simulated_c.proofs.opened.Opened.completions.Goals as goal

pub loop-index-preserved : goal.loop-index-preserved
loop-index-preserved c =
    let items = c.args.self.now.completed.items in
    let left = drop c.args.first items in
    let long : length left ≡ length items - c.args.first = length-drop c.args.first items in
    let records : length (records_from c.args.self.now c.args.first) ≡ length left = length-map left done_of in
    let count : c.min-count.result ≡ min (length items - c.args.first) (length c.args.out.now) =
    c.min-count.ensures
    ∙ ap (λ n. min n (length c.args.out.now))
    (c.saturating_sub.ensures ∙ ap (λ n. n - c.args.first) (c.len.ensures ∙ c.args.self.now.completed.ok.0)) in
    let here = c.index.result.now in
    let read : here ≡ get_or left c.loop-index.index here =
    c.index.ensures ∙ sym (get_or-drop c.args.first items c.loop-index.index here) in
    let below = c.loop-index-test.true in
    one_written (records_from c.args.self.now c.args.first) c.args.out.now c.loop-index.out c.loop-index.index
    c.of.result (omega (arith, below, count, long, records)) (omega (arith, below, count, long, records))
    c.loop-index.invariant
    (c.of.ensures ∙ ap done_of read
    ∙ sym (get_or-map done_of left c.loop-index.index here c.of.result (omega (arith, below, count, long))))

pub returns-clause-written : goal.returns-clause-written
returns-clause-written c =
    let items = c.args.self.now.completed.items in
    let left = drop c.args.first items in
    let long : length left ≡ length items - c.args.first = length-drop c.args.first items in
    let records : length (records_from c.args.self.now c.args.first) ≡ length left = length-map left done_of in
    let count : c.min-count.result ≡ min (length items - c.args.first) (length c.args.out.now) =
    c.min-count.ensures
    ∙ ap (λ n. min n (length c.args.out.now))
    (c.saturating_sub.ensures ∙ ap (λ n. n - c.args.first) (c.len.ensures ∙ c.args.self.now.completed.ok.0)) in
    c.loop-index.invariant
    ∙ all_written (records_from c.args.self.now c.args.first) c.args.out.now c.loop-index.index
    (omega (arith, count, long, records, c.loop-index-test.false, c.loop-index.auto.index-end))
