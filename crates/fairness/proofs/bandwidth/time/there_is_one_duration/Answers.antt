use Rattle.fairness.proofs.Common.{◌≡◌, ◌^◌, ◌≤◌, Some, None, refl, sym, ap, ◌∙◌, arith, Unlimited, Finite}
use Rattle.fairness.proofs.bandwidth.time.there_is_one_duration.Goals as goal

pub returns : goal.returns
returns c Unlimited left a b fits_a fits_b first second = first ∙ sym second
returns c (Finite rate) left (Some n) (Some m) fits_a fits_b first second =
    let below = first.1.least m second.1.covers in
    let above = second.1.least n first.1.covers in
    let same : n ≡ m = omega (arith, below, above) in
    ap Some same
returns c (Finite rate) left (Some n) None fits_a fits_b first second =
    let late : 2 ^ 64 ≤ n = second first.0 n first.1.covers in
    absurd (omega (arith, late, fits_a))
returns c (Finite rate) left None (Some m) fits_a fits_b first second =
    let late : 2 ^ 64 ≤ m = first second.0 m second.1.covers in
    absurd (omega (arith, late, fits_b))
returns c (Finite rate) left None None fits_a fits_b first second = refl
