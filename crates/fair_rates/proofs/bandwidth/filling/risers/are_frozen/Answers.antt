use Rattle.fair_rates.proofs.Common.{◌<◌, ℕ, All, All-push, IsSome, get_or, length, sym, subst, arith}
use Rattle.fair_rates.proofs.Common.{common_steps, take, take_all, level_at}
use Rattle.std.proofs.lemmas.List.{take_more}
use Rattle.fair_rates.proofs.bandwidth.filling.risers.are_frozen.Goals as goal

pub loop-user-preserved : goal.loop-user-preserved
loop-user-preserved c =
    let users = c.args.users.now in
    let i = c.loop-user.user-index in
    let P : ℕ → Type 0 = λ flow. IsSome (level_at c.args.level_of.now flow) in
    let inside : i < length users = omega (arith, c.loop-user-test.true) in
    let some : P (get_or users i 0) = grind (arith, common_steps, c.is_none.ensures, c.if-is_none.false) in
    subst (All P) (sym (take_more users i 0 inside)) (All-push P (take i users) (get_or users i 0) c.loop-user.invariant some)

pub returns : goal.returns
returns c all =
    subst (All (λ flow. IsSome (level_at c.args.level_of.now flow)))
    (take_all c.loop-user.user-index c.args.users.now (omega (arith, c.loop-user-test.false)))
    c.loop-user.invariant
