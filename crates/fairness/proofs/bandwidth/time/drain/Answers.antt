use Rattle.fairness.proofs.Common.{inl, refl, sym, false≢true}
use Rattle.fairness.specs.Numbers.FractionOrder.{le_if_tested, greater_if_tested}
use Rattle.fairness.proofs.Numbers.Fits.{none_iff}
use Rattle.fairness.proofs.Numbers.Transfer.{taking_from_seconds, taking_fits, taken_from_product, covers_iff}
use Rattle.fairness.proofs.Numbers.Transfer.{leaves_iff, all_drained, drained_to_zero}
use Rattle.fairness.proofs.bandwidth.time.drain.Goals as goal

pub returns-in_err-taken-clause-fits : goal.returns-in_err-taken-clause-fits
returns-in_err-taken-clause-fits c =
    let taking =
    taking_from_seconds c.args.rate c.in_ok-seconds.seconds c.from.result c.args.elapsed
    c.in_ok-seconds.ensures.value c.from.ensures in
    none_iff _ c.from_residual-in_err-taken.ensures
    (λ fits. false≢true (c.in_err-taken.ensures.fits.1 ((taking_fits _ _ _ taking).1 fits.fits)))

pub returns-then-le-clause-fits : goal.returns-then-le-clause-fits
returns-then-le-clause-fits c =
    let taking =
    taking_from_seconds c.args.rate c.in_ok-seconds.seconds c.from.result c.args.elapsed
    c.in_ok-seconds.ensures.value c.from.ensures in
    let taken = taken_from_product _ _ _ c.in_ok-taken.taken taking c.in_ok-taken.ensures.value in
    let covers =
    (covers_iff c.args.remaining c.args.rate c.in_ok-taken.taken c.args.elapsed taken).0
    (le_if_tested _ _ _ _ (sym c.if-le.ensures)) in (
      λ s. record { fits = (taking_fits _ _ _ taking).0 (c.in_ok-taken.ensures.fits.0 refl); leaves = inl covers },
      λ fits. refl,
    )

pub returns-then-le-clause-value : goal.returns-then-le-clause-value
returns-then-le-clause-value c =
    let taking =
    taking_from_seconds c.args.rate c.in_ok-seconds.seconds c.from.result c.args.elapsed
    c.in_ok-seconds.ensures.value c.from.ensures in
    let taken = taken_from_product _ _ _ c.in_ok-taken.taken taking c.in_ok-taken.ensures.value in
    let covers =
    (covers_iff c.args.remaining c.args.rate c.in_ok-taken.taken c.args.elapsed taken).0
    (le_if_tested _ _ _ _ (sym c.if-le.ensures)) in
    drained_to_zero c.args.remaining c.args.rate c.zero.result c.args.elapsed covers c.zero.ensures

pub returns-clause-fits : goal.returns-clause-fits
returns-clause-fits c =
    let taking =
    taking_from_seconds c.args.rate c.in_ok-seconds.seconds c.from.result c.args.elapsed
    c.in_ok-seconds.ensures.value c.from.ensures in
    let taken = taken_from_product _ _ _ c.in_ok-taken.taken taking c.in_ok-taken.ensures.value in
    let leaves =
    leaves_iff c.args.remaining c.args.rate c.in_ok-taken.taken c.args.elapsed taken
    (greater_if_tested _ _ _ _ (sym c.if-le.ensures)) in (
      λ s.
          record {
            fits = (taking_fits _ _ _ taking).0 (c.in_ok-taken.ensures.fits.0 refl);
            leaves = leaves.0 (c.checked_sub.ensures.fits.0 s);
          },
      λ fits. c.checked_sub.ensures.fits.1 (leaves.1 fits.leaves),
    )

pub returns-clause-value : goal.returns-clause-value
returns-clause-value c =
    let taking =
    taking_from_seconds c.args.rate c.in_ok-seconds.seconds c.from.result c.args.elapsed
    c.in_ok-seconds.ensures.value c.from.ensures in
    let taken = taken_from_product _ _ _ c.in_ok-taken.taken taking c.in_ok-taken.ensures.value in
    all_drained c.args.remaining c.args.rate c.in_ok-taken.taken c.args.elapsed c.checked_sub.result taken
    c.checked_sub.ensures.value
