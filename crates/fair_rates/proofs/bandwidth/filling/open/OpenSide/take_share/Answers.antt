use Rattle.fair_rates.proofs.Common.{◌≡◌, ℕ, ◌+◌, ◌*◌, ◌/◌, ◌^◌, zero, suc, length, ap₂, subst, ◌∙◌, arith, common_steps, OpenSide}
use Rattle.std.proofs.Common.{◌%◌, IfOk}
use Rattle.std.proofs.Math.Nat.{div-one, one-mul}
use Rattle.std.proofs.lemmas.Nat.{div-add-mod'}
use Rattle.fair_rates.proofs.bandwidth.filling.open.OpenSide.take_share.Goals as goal

-- where no limb is left out, the division leaves all
whole : (slack count shift : ℕ) → shift ≡ 0
    → slack / (2 ^ (64 * shift) * count) * count + slack / 2 ^ (64 * shift) % count ≡ slack
whole slack count zero none =
    ap₂ (λ n m. slack / n * count + m % count) (one-mul count) (div-one slack) ∙ div-add-mod' slack count
whole slack count (suc shift) none = absurd (omega (arith, none))

pub returns-then-self-eq0-clause-whole : goal.returns-then-self-eq0-clause-whole
returns-then-self-eq0-clause-whole c =
    let side : OpenSide = c.args.self.now in
    let n : ℕ = length side.rising.items in
    let count : c.len-count.result ≡ n = grind (arith, common_steps, c.len-count.ensures) in
    let none : side.share.shift ≡ 0 = grind (arith, common_steps, c.if-self-eq0.true) in
    let quotient = c.from_u128-quotient.ensures ∙ side.rounded in
    let slack =
    ap₂ (λ q r. q * n + r) quotient side.left ∙ whole side.slack n side.share.shift none in
    subst (λ all. IfOk c.share_of.result (λ share. share.parts * n ≡ all * share.factor)) slack
    (subst (λ m. IfOk c.share_of.result
    (λ share. share.parts * m ≡ (c.from_u128-quotient.result * m + side.share.rest) * share.factor)) count
    c.share_of.ensures.whole)
