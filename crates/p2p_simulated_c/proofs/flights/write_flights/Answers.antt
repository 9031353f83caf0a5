use Rattle.p2p_simulated_c.proofs.Common.{◌≡◌, length, map, sym, ap, ◌∙◌, arith, length-map, get_or-map, flight_of}
use Rattle.p2p_simulated_c.proofs.Copying.{all_written, one_written}
use Rattle.p2p_simulated_c.proofs.flights.write_flights.Goals as goal

pub loop-index-preserved : goal.loop-index-preserved
loop-index-preserved c =
    let long : length (map flight_of c.args.readings.now) ≡ length c.args.readings.now =
    length-map c.args.readings.now flight_of in
    let below = c.loop-index-test.true in
    one_written (map flight_of c.args.readings.now) c.args.out.now c.loop-index.out c.loop-index.index c.of.result
    (omega (arith, below, c.min-count.ensures, long)) (omega (arith, below, c.min-count.ensures))
    c.loop-index.invariant
    (c.of.ensures ∙ ap flight_of c.index-readings-index.is
    ∙ sym
    (get_or-map flight_of c.args.readings.now c.loop-index.index c.index-readings-index.result c.of.result
    (omega (arith, below, c.min-count.ensures))))

pub returns : goal.returns
returns c =
    let long : length (map flight_of c.args.readings.now) ≡ length c.args.readings.now =
    length-map c.args.readings.now flight_of in
    c.loop-index.invariant
    ∙ all_written (map flight_of c.args.readings.now) c.args.out.now c.loop-index.index
    (omega (arith, c.min-count.ensures, long, c.loop-index-test.false, c.loop-index.auto.index-end))
