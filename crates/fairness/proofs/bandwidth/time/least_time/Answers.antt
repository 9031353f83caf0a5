use Rattle.fairness.proofs.Common.{refl, false≢true}
use Rattle.fairness.proofs.Numbers.Fits.{none_iff}
use Rattle.fairness.proofs.Numbers.LeastTime.{time_from_seconds, time_fits, least_from_ceil}
use Rattle.fairness.proofs.bandwidth.time.least_time.Goals as goal

pub returns-in_err-nanoseconds-clause-fits : goal.returns-in_err-nanoseconds-clause-fits
returns-in_err-nanoseconds-clause-fits c =
    let is =
    time_from_seconds c.args.rate c.args.remaining c.in_ok-seconds.seconds c.from_whole.result c.requires
    c.in_ok-seconds.ensures.value c.from_whole.ensures in
    none_iff _ c.from_residual-in_err-nanoseconds.ensures
    (λ fits. false≢true (c.in_err-nanoseconds.ensures.fits.1 ((time_fits _ _ _ is).1 fits.in_nanoseconds)))

pub returns-clause-fits : goal.returns-clause-fits
returns-clause-fits c =
    let is =
    time_from_seconds c.args.rate c.args.remaining c.in_ok-seconds.seconds c.from_whole.result c.requires
    c.in_ok-seconds.ensures.value c.from_whole.ensures in
    let in_nanoseconds = (time_fits _ _ _ is).0 (c.in_ok-nanoseconds.ensures.fits.0 refl) in (
      λ s. record { in_seconds = (c.in_ok-seconds.ensures.fits.0 refl).1; in_nanoseconds = in_nanoseconds },
      λ fits. refl,
    )

pub returns-clause-value : goal.returns-clause-value
returns-clause-value c =
    let is =
    time_from_seconds c.args.rate c.args.remaining c.in_ok-seconds.seconds c.from_whole.result c.requires
    c.in_ok-seconds.ensures.value c.from_whole.ensures in
    least_from_ceil _ _ _ c.in_ok-nanoseconds.nanoseconds c.ceil.result is c.in_ok-nanoseconds.ensures.value
    c.ceil.ensures.enough c.ceil.ensures.least
