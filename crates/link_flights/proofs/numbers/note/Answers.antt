use Rattle.link_flights.proofs.Common.{◌∙◌, arith, length-set, slice_get_within}
use Rattle.link_flights.proofs.Flights.Numbered.{numbered_more}
use Rattle.link_flights.proofs.numbers.note.Goals as goal

pub loop-number-preserved : goal.loop-number-preserved
loop-number-preserved c =
    let number = c.loop-number.number in
    let within = c.requires.within number 0 c.loop-number-test.true in
    record {
      numbered = numbered_more c.args.places.now c.loop-number.number_at number c.requires.order c.loop-number-test.true
          (omega (arith, within, c.loop-number.invariant.each)) c.loop-number.invariant.numbered;
      each = length-set c.loop-number.number_at _ _ ∙ c.loop-number.invariant.each;
    }

pub returns : goal.returns
returns c = record {
  numbered = λ k at there.
      c.loop-number.invariant.numbered k at
      (omega (arith, slice_get_within c.args.places.now k at there, c.loop-number-test.false)) there;
}
