use Rattle.p2p_simulated_c.proofs.Common.{◌≡◌, Some, length, map, ap, sym, ◌∙◌, arith, length-map, get_or-map, Rate}
use Rattle.p2p_simulated_c.proofs.Common.{record_of_rate}
use Rattle.p2p_simulated_c.specs.declared.records.PlanRate.{PlanRate}
use Rattle.p2p_simulated_c.proofs.Copying.{all_written, one_written}
use Rattle.p2p_simulated_c.proofs.routes.write_rates.Goals as goal

abbrev of : Rate → PlanRate
of rate = record_of_rate (Some rate)

pub loop-index-preserved : goal.loop-index-preserved
loop-index-preserved c =
    let rates = c.args.rates.now in
    let long : length (map of rates) ≡ length rates = length-map rates of in
    let below = c.loop-index-test.true in
    let i = c.loop-index.index in
    let rate = c.index-rates-index.result in
    one_written (map of rates) c.args.out.now c.loop-index.out i c.of.result
    (omega (arith, below, c.min-count.ensures, long)) (omega (arith, below, c.min-count.ensures))
    c.loop-index.invariant
    (c.of.ensures ∙ ap of c.index-rates-index.is
    ∙ sym (get_or-map of rates i rate c.of.result (omega (arith, below, c.min-count.ensures))))

pub returns : goal.returns
returns c =
    let long : length (map of c.args.rates.now) ≡ length c.args.rates.now = length-map c.args.rates.now of in
    c.loop-index.invariant
    ∙ all_written (map of c.args.rates.now) c.args.out.now c.loop-index.index
    (omega (arith, c.min-count.ensures, long, c.loop-index-test.false, c.loop-index.auto.index-end))
