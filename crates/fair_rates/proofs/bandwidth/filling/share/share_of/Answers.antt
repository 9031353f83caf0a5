use Rattle.fair_rates.proofs.Common.{◌∣◌, ◌+◌, ◌*◌, ◌/◌, subst, sym, arith, gcd-pos, gcd-IsGcd}
use Rattle.std.proofs.Math.Nat.{div-mul_cancel}
use Rattle.fair_rates.proofs.Filling.Share.{quotient_positive, whole, least_factor}
use Rattle.fair_rates.proofs.bandwidth.filling.share.share_of.Goals as goal

pub nonzero_div-factor : goal.nonzero_div-factor
nonzero_div-factor c =
    omega (arith, gcd-pos c.args.rest c.args.count (omega (arith, c.requires)), c.gcd_of_narrow-shared.ensures)

pub nonzero_div-rest : goal.nonzero_div-rest
nonzero_div-rest c =
    omega (arith, gcd-pos c.args.rest c.args.count (omega (arith, c.requires)), c.gcd_of_narrow-shared.ensures)

pub returns-clause-factor : goal.returns-clause-factor
returns-clause-factor c =
    let g = gcd-IsGcd c.args.rest c.args.count in
    quotient_positive c.args.count c.gcd_of_narrow-shared.result (c.args.count / c.gcd_of_narrow-shared.result)
    (omega (arith, c.requires)) (div-mul_cancel c.gcd_of_narrow-shared.result
    (subst (λ n. n ∣ c.args.count) (sym c.gcd_of_narrow-shared.ensures) g.1))

pub returns-clause-whole : goal.returns-clause-whole
returns-clause-whole c =
    let shared = c.gcd_of_narrow-shared.result in
    let rest = c.args.rest in
    let g = gcd-IsGcd rest c.args.count in
    let quotient = c.args.quotient in
    whole (quotient * c.args.count + rest) c.args.count quotient rest shared (c.args.count / shared) (rest / shared)
    c.add_assign.new.self (omega arith)
    (div-mul_cancel shared (subst (λ n. n ∣ c.args.count) (sym c.gcd_of_narrow-shared.ensures) g.1))
    (div-mul_cancel shared (subst (λ n. n ∣ rest) (sym c.gcd_of_narrow-shared.ensures) g.0))
    (omega (arith, c.in_ok-add_assign.ensures.value, c.in_ok-multiply.ensures.value, c.from_u64.ensures))

pub returns-clause-least : goal.returns-clause-least
returns-clause-least c parts factor any is =
    let shared = c.gcd_of_narrow-shared.result in
    let rest = c.args.rest in
    least_factor (c.args.quotient * c.args.count + rest) c.args.count c.args.quotient rest shared
    (c.args.count / shared) parts factor (omega (arith, c.requires)) (omega arith)
    c.gcd_of_narrow-shared.ensures (div-mul_cancel shared
    (subst (λ n. n ∣ c.args.count) (sym c.gcd_of_narrow-shared.ensures) (gcd-IsGcd rest c.args.count).1)) any is
