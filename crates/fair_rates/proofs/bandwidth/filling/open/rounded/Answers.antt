use Rattle.fair_rates.proofs.Common.{◌/◌, ◌*◌, ◌^◌, ap, ◌∙◌}
use Rattle.std.proofs.Math.Nat.{div-div-eq-div-mul}
use Rattle.fair_rates.proofs.bandwidth.filling.open.rounded.Goals as goal

pub returns-clause-quotient : goal.returns-clause-quotient
returns-clause-quotient c =
    c.divided-quotient.ensures.quotient ∙ ap (λ n. n / c.args.count) c.highest_limbs-highest.ensures.value
    ∙ div-div-eq-div-mul c.args.slack.now (2 ^ (64 * c.highest_limbs-highest.result.1)) c.args.count
