use Rattle.fair_routes.proofs.Common.{◌≡◌, sum_by, take, refl, ap, arith, take_all, not_some, weight_at, sum_by_more}
use Rattle.std.proofs.lemmas.List.Sums.{sum_by_more_le}
use Rattle.fair_routes.proofs.routes.weighted.weight_together.Goals as goal

pub returns-in_err-together : goal.returns-in_err-together
returns-in_err-together c =
    let weigh = weight_at c.args.weights.now in
    let users = c.args.users.now in
    let i = c.loop-user.user-index in
    let within = sum_by_more_le weigh users i 0 (omega (arith, c.loop-user-test.true)) in
    let e : c.loop-user.together ≡ sum_by weigh (take i users) = c.loop-user.invariant.sum in (
      (λ some. absurd (not_some _ c.from_residual.ensures some)),
      (λ small. absurd (c.in_err-together.ensures (omega (arith, small, within, e)))),
    )

pub loop-user-preserved : goal.loop-user-preserved
loop-user-preserved c =
    let e = c.loop-user.invariant.sum in
    let more = sum_by_more (weight_at c.args.weights.now) c.args.users.now c.loop-user.user-index 0
    (omega (arith, c.loop-user-test.true)) in
    record { sum = omega (arith, e, more, c.in_ok-together.ensures.1); fits = omega (arith, c.in_ok-together.ensures) }

pub returns : goal.returns
returns c =
    let e = c.loop-user.invariant.sum in
    let all = take_all c.loop-user.user-index c.args.users.now (omega (arith, c.loop-user-test.false)) in
    let is = ap (sum_by (weight_at c.args.weights.now)) all in
    ((λ some. omega (arith, e, is, c.loop-user.invariant.fits)), (λ small. refl))
