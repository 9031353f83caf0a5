use Rattle.link_replay.proofs.Common.{◌≡◌, ℕ, refl, ap, ◌∙◌, arith, Amount}
use Rattle.std.proofs.Common.{Bool, true, false}
use Rattle.fairness.specs.Numbers.Amount.{whole}
use Rattle.fairness.specs.Numbers.Ratio.{amount_of}
use Rattle.link_flights.specs.Flights.Readings.{IsGreatestWhole}
use Rattle.link_replay.proofs.clauses.an_amount_has_one_reading.Goals as goal

one_whole : (amount : Amount) (n m : ℕ) → IsGreatestWhole amount n → IsGreatestWhole amount m → n ≡ m
one_whole amount n m first second =
    let below = second.greatest n first.fits first.within in
    let above = first.greatest m second.fits second.within in
    omega (arith, below, above)

pub returns-clause-told : goal.returns-clause-told
returns-clause-told c amount reading is = is.exact_if

pub returns-clause-exact : goal.returns-clause-exact
returns-clause-exact c amount reading is short = is.exact (is.exact_if.1 short)

pub returns-clause-rounded : goal.returns-clause-rounded
returns-clause-rounded c amount reading n is long greatest = by_flag reading.is_exact refl
  where
    by_flag : (b : Bool) → reading.is_exact ≡ b → amount_of reading.amount ≡ whole n
    by_flag true e = absurd (long (is.exact_if.0 e))
    by_flag false e =
        let (m, at, own) = is.rounded e in
        at ∙ ap whole (one_whole amount m n own greatest)

pub returns-clause-one : goal.returns-clause-one
returns-clause-one c = one_whole
