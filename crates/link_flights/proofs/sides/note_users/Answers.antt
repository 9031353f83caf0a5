use Rattle.link_flights.proofs.Common.{◌≡◌, ◌⊎◌, ◌<◌, ◌∙◌, length, arith, subst, Contains, Some, true, slice_get}
use Rattle.link_flights.proofs.Common.{length-set, take_all}
use Rattle.link_flights.proofs.Flights.Sides.{noted_more}
use Rattle.link_flights.proofs.sides.note_users.Goals as goal

pub loop-user-preserved : goal.loop-user-preserved
loop-user-preserved c =
    let i = c.loop-user.user-index in
    let inside : i < length c.args.users.now = omega (arith, c.loop-user-test.true) in
    record {
      noted = noted_more c.args.has_side.now c.loop-user.has_side c.args.users.now i inside c.loop-user.invariant.noted;
      each = length-set c.loop-user.has_side _ _ ∙ c.loop-user.invariant.each;
    }

pub returns-clause-noted : goal.returns-clause-noted
returns-clause-noted c k is =
    subst (λ us. (slice_get c.args.has_side.now k ≡ Some true) ⊎ Contains us k)
    (take_all c.loop-user.user-index c.args.users.now (omega (arith, c.loop-user-test.false)))
    (c.loop-user.invariant.noted k is)
