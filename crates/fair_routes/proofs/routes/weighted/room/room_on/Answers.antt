use Rattle.fair_routes.proofs.Common.{◌≡◌, ℕ, ◌-◌, ◌*◌, ◌<◌, ◌≤◌, ◌^◌, All, None, sum_by, get_or, length, ap, ◌∙◌}
use Rattle.fair_routes.proofs.Common.{subst, sym, arith, unwrap_or, is_none, take_all, get_or_default, at_level}
use Rattle.fair_routes.proofs.Common.{frozen_in, rising_weight, weight_at, sum_by_more}
use Rattle.std.proofs.Common.{mul_comm}
use Rattle.std.specs.Prelude.{cond}
use Rattle.std.proofs.lemmas.List.Sums.{sum_by_more_le_part}
use Rattle.fair_routes.proofs.Network.Rising.{no_more_weight}
use Rattle.fair_routes.proofs.routes.weighted.room.room_on.Goals as goal

pub overflow_add-weight : goal.overflow_add-weight
overflow_add-weight c =
    let users = c.deref-user-items.result.now in
    let parts = c.args.parts.now in
    let weights = c.args.weights.now in
    let i = c.loop-user.user-index in
    let user = get_or users i 0 in
    let inside : i < length users = omega (arith, c.loop-user-test.true) in
    let among : All (λ u. u < length weights) users =
    subst (All (λ u. u < length weights)) (sym c.deref-user-items.ensures.value) c.requires.users in
    let below : user < length parts = omega (arith, among i 0 inside, c.requires.one_each) in
    let rises : ℕ → ℕ = λ u. cond (is_none (frozen_in parts u)) (weight_at weights u) 0 in
    let again : c.index-parts-user-in-loop-user.result ≡ frozen_in parts user =
    c.index-parts-user-in-loop-user.is ∙ get_or_default parts user c.index-parts-user-in-loop-user.result None below in
    let rising = c.weight_of_rising-weight.ensures ∙ ap (λ o. cond (is_none o) (weight_at weights user) 0) again in
    let little : sum_by (weight_at weights) users < 2 ^ 64 =
    subst (λ us. sum_by (weight_at weights) us < 2 ^ 64) (sym c.deref-user-items.ensures.value) c.requires.little in
    let within = sum_by_more_le_part rises (weight_at weights) users i 0 inside (λ u. no_more_weight (frozen_in parts u) (weight_at weights u)) in
    let one : rises user ≤ weight_at weights user = no_more_weight (frozen_in parts user) (weight_at weights user) in
    omega (arith, rising, one, within, little, c.loop-user.invariant.weight)

pub loop-user-preserved : goal.loop-user-preserved
loop-user-preserved c =
    let users = c.deref-user-items.result.now in
    let parts = c.args.parts.now in
    let weights = c.args.weights.now in
    let i = c.loop-user.user-index in
    let user = get_or users i 0 in
    let inside : i < length users = omega (arith, c.loop-user-test.true) in
    let among : All (λ u. u < length weights) users =
    subst (All (λ u. u < length weights)) (sym c.deref-user-items.ensures.value) c.requires.users in
    let below : user < length parts = omega (arith, among i 0 inside, c.requires.one_each) in
    let rises : ℕ → ℕ = λ u. cond (is_none (frozen_in parts u)) (weight_at weights u) 0 in
    let again : c.index-parts-user-in-loop-user.result ≡ frozen_in parts user =
    c.index-parts-user-in-loop-user.is ∙ get_or_default parts user c.index-parts-user-in-loop-user.result None below in
    let rising = c.weight_of_rising-weight.ensures ∙ ap (λ o. cond (is_none o) (weight_at weights user) 0) again in
    let held : ℕ → ℕ = λ u. at_level (frozen_in parts) 0 u * weight_at weights u in
    let first = c.index-parts-user.is ∙ get_or_default parts user c.index-parts-user.result None below in
    let taken = ap (λ o. unwrap_or o 0 * weight_at weights user) first in
    let slack = c.take_off.ensures ∙ ap (λ n. c.loop-user.slack - n) taken in
    record {
      slack = omega (arith, slack, c.loop-user.invariant.slack, sum_by_more held users i 0 inside);
      weight = omega (arith, rising, c.loop-user.invariant.weight, sum_by_more rises users i 0 inside);
    }

pub returns-clause-slack : goal.returns-clause-slack
returns-clause-slack c =
    let parts = c.args.parts.now in
    let weights = c.args.weights.now in
    let held : ℕ → ℕ = λ u. at_level (frozen_in parts) 0 u * weight_at weights u in
    let all = take_all c.loop-user.user-index c.deref-user-items.result.now (omega (arith, c.loop-user-test.false)) in
    omega (
      arith,
      c.loop-user.invariant.slack,
      ap (sum_by held) (all ∙ c.deref-user-items.ensures.value),
      mul_comm c.args.scale.now c.args.side.now.cap,
    )

pub returns-clause-weight : goal.returns-clause-weight
returns-clause-weight c =
    let all = take_all c.loop-user.user-index c.deref-user-items.result.now (omega (arith, c.loop-user-test.false)) in
    c.loop-user.invariant.weight
    ∙ ap (rising_weight c.args.weights.now (frozen_in c.args.parts.now)) (all ∙ c.deref-user-items.ensures.value)
