use Rattle.fair_rates.proofs.Common.{◌≡◌, ◌*◌, ◌/◌, ◌^◌, length, ap, ap₂, sym, ◌∙◌, arith, common_steps, nat_cmp}
use Rattle.fair_rates.proofs.Common.{ℕ, OpenSide}
use Rattle.fair_rates.proofs.Common.{zero, suc}
use Rattle.std.proofs.Common.{◌%◌}
use Rattle.std.proofs.lemmas.Nat.{pow_pos}
use Rattle.std.proofs.Math.Nat.{div-one, one-mul}
use Rattle.fairness.specs.Numbers.Fraction.{fraction_cmp}
use Rattle.fairness.specs.Numbers.FractionOrder.{by_wholes_times, by_rests}
use Rattle.fair_rates.proofs.bandwidth.filling.open.OpenSide.compare.Goals as goal

-- where no limb is left out, by what the divisions leave
unshifted : (slack count shift other other_count : ℕ) → shift ≡ 0
    → slack / (2 ^ (64 * shift) * count) ≡ other / (2 ^ (64 * shift) * other_count)
    → nat_cmp (other_count * (slack / 2 ^ (64 * shift) % count)) (count * (other / 2 ^ (64 * shift) % other_count))
    ≡ fraction_cmp slack count other other_count
unshifted slack count zero other other_count none same =
    let wholes : slack / count ≡ other / other_count =
    ap (λ n. slack / n) (sym (one-mul count)) ∙ same ∙ ap (λ n. other / n) (one-mul other_count) in
    ap₂ nat_cmp (ap (λ n. other_count * (n % count)) (div-one slack))
    (ap (λ n. count * (n % other_count)) (div-one other)) ∙ by_rests slack count other other_count wholes
unshifted slack count (suc shift) other other_count none same = absurd (omega (arith, none))

pub returns-then-self-other-2 : goal.returns-then-self-other-2
returns-then-self-other-2 c =
    let a : OpenSide = c.args.self.now in
    let b : OpenSide = c.args.other.now in
    let units : ℕ = 2 ^ (64 * a.share.shift) in
    let same : a.share.shift ≡ b.share.shift = grind (arith, common_steps, c.if-self-other.true) in
    let other = b.rounded ∙ ap (λ shift. b.slack / (2 ^ (64 * shift) * length b.rising.items)) (sym same) in
    let differ : a.share.quotient ≡ b.share.quotient → ⊥ = grind (arith, common_steps, c.if-self-other-2.true) in
    c.cmp.ensures ∙ ap₂ nat_cmp a.rounded other
    ∙ by_wholes_times units a.slack (length a.rising.items) b.slack (length b.rising.items) (pow_pos (64 * a.share.shift))
    a.some b.some (λ e. differ (a.rounded ∙ e ∙ sym other))

pub returns-then-self-eq0 : goal.returns-then-self-eq0
returns-then-self-eq0 c =
    let a : OpenSide = c.args.self.now in
    let b : OpenSide = c.args.other.now in
    let n : ℕ = length a.rising.items in
    let m : ℕ = length b.rising.items in
    let same : b.share.shift ≡ a.share.shift = grind (arith, common_steps, c.if-self-other.true) in
    let none : a.share.shift ≡ 0 = grind (arith, common_steps, c.if-self-eq0.true) in
    let quotients : a.share.quotient ≡ b.share.quotient = grind (arith, common_steps, c.if-self-other-2.false) in
    let other = b.rounded ∙ ap (λ shift. b.slack / (2 ^ (64 * shift) * m)) same in
    let rest = b.left ∙ ap (λ shift. b.slack / 2 ^ (64 * shift) % m) same in
    c.compare_rests.ensures ∙ ap₂ nat_cmp (ap (λ rest. m * rest) a.left) (ap (λ rest. n * rest) rest)
    ∙ unshifted a.slack n a.share.shift b.slack m none (sym a.rounded ∙ quotients ∙ other)
