use Rattle.p2p_simulated_c.proofs.Common.{◌≡◌, length, ap, sym, ◌∙◌, arith, length-map, get_or-map, get, nat_cmp}
use Rattle.p2p_simulated_c.proofs.Common.{record_of_rate, rates_of}
use Rattle.p2p_simulated_c.proofs.Copying.{all_written, one_written}
use Rattle.p2p_simulated_c.proofs.planner.write_rates.Goals as goal

pub loop-index-preserved : goal.loop-index-preserved
loop-index-preserved c =
    let rate_by = get nat_cmp c.args.rates.now in
    let long : length (rates_of c.args.flows.now rate_by) ≡ length c.args.flows.now =
    length-map c.args.flows.now (λ f. record_of_rate (rate_by f.id)) in
    let below = c.loop-index-test.true in
    one_written (rates_of c.args.flows.now rate_by) c.args.out.now c.loop-index.out c.loop-index.index c.of.result
    (omega (arith, below, c.min-count.ensures, long)) (omega (arith, below, c.min-count.ensures))
    c.loop-index.invariant
    (c.of.ensures ∙ ap record_of_rate (c.copied.ensures ∙ c.get.ensures.value)
    ∙ sym
    (get_or-map (λ f. record_of_rate (rate_by f.id)) c.args.flows.now c.loop-index.index _ c.of.result
    (omega (arith, below, c.min-count.ensures))))

pub returns : goal.returns
returns c =
    let rate_by = get nat_cmp c.args.rates.now in
    let long : length (rates_of c.args.flows.now rate_by) ≡ length c.args.flows.now =
    length-map c.args.flows.now (λ f. record_of_rate (rate_by f.id)) in
    c.loop-index.invariant
    ∙ all_written (rates_of c.args.flows.now rate_by) c.args.out.now c.loop-index.index
    (omega (arith, c.min-count.ensures, long, c.loop-index-test.false, c.loop-index.auto.index-end))
