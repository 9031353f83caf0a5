use Rattle.fair_rates.proofs.Common.{◌≡◌, ◌≢◌, ℕ, ◌+◌, ◌*◌, ◌<◌, ◌≤◌, ◌⊎◌, Some, None, length, inl, inr, arith, ◌∙◌, ap}
use Rattle.fair_rates.proofs.Common.{sym, subst, common_steps, All-weaker, get_or_default, level_at, frozen_at}
use Rattle.fair_rates.proofs.Common.{at_level}
use Rattle.fair_rates.proofs.Filling.Account.{still_within, account_more, rest_of}
use Rattle.fairness.proofs.Filling.Frozen.{at_some, some_of_if}
use Rattle.fair_rates.proofs.Filling.Levels.{frozen_there}
use Rattle.fair_rates.proofs.bandwidth.filling.risers.take_frozen.Goals as goal

shorter : {P : Type 0} (n old new : ℕ) → new + 1 ≡ old → (old < n) ⊎ (P × (old ≡ n)) → new < n
shorter n old new fewer (inl less) = omega (arith, fewer, less)
shorter n old new fewer (inr (p, same)) = omega (arith, fewer, same)

pub loop-place-preserved-in-Some : goal.loop-place-preserved-in-Some
loop-place-preserved-in-Some c =
    let levels = c.args.levels.now in
    let level_of = c.args.level_of.now in
    let frozen = frozen_at levels level_of in
    let i = c.loop-place.place in
    let old = c.loop-place.rising.items in
    let slack = c.loop-place.slack in
    let new = c.swap_remove.new.self.items in
    let rest = c.sub_assign.new.self in
    let parts = c.index-levels-level.result in
    let inside : i < length old = grind (arith, common_steps) in
    let user : ℕ = c.swap_remove.result in
    let place = c.in-Some.level in
    let at : level_at level_of user ≡ Some place =
    grind (arith, common_steps, c.in-Some.is, c.index.ensures, c.swap_remove.ensures.value) in
    let flow : user < length level_of =
    subst (λ n. n < length level_of) (sym c.swap_remove.ensures.value) (c.loop-place.invariant.counted.users i user inside) in
    let some_level : place < length levels =
    some_of_if (λ k. k < length levels) (level_at level_of user) (c.requires.inside user None flow) place at in
    let is = frozen_there levels level_of user place at ∙ ap Some (get_or_default levels place 0 parts some_level ∙ sym
    c.index-levels-level.is) in
    let left : rest + parts ≡ slack = omega (arith, c.sub_assign.ensures) in
    let fewer : length new + 1 ≡ length old = grind (arith, common_steps, c.swap_remove.ensures.len) in
    let here : at_level frozen 0 user * length old ≤ slack =
    subst (λ j. at_level frozen 0 j * length old ≤ slack) (sym c.swap_remove.ensures.value)
    (c.loop-place.invariant.no_more i user inside) in
    let had : parts * length old ≤ slack =
    omega (arith, here, ap (λ n. n * length old) (at_some frozen 0 user parts is)) in
    let counted = c.loop-place.invariant.counted in
    record {
      counted = record {
        account = λ side scale account.
            account_more side scale frozen slack old (counted.account side scale account) i user parts rest
            new inside c.swap_remove.ensures.value is left
            c.swap_remove.ensures.items;
        users =
            rest_of (λ flow. flow < length level_of) old new i user inside c.swap_remove.ensures.value
            c.swap_remove.ensures.items counted.users;
        no_lower = λ more within.
            still_within more parts slack rest (length old) (length new) fewer left (counted.no_lower more within) had;
        changed = inl (shorter (length c.args.rising.now.items) (length old) (length new) fewer counted.changed);
      };
      no_more =
          All-weaker (λ j. at_level frozen 0 j * length old ≤ slack) (λ j. at_level frozen 0 j * length new ≤ rest)
          (λ j le. still_within (at_level frozen 0 j) parts slack rest (length old) (length new) fewer left le had) new
          (rest_of (λ j. at_level frozen 0 j * length old ≤ slack) old new i user inside c.swap_remove.ensures.value
          c.swap_remove.ensures.items c.loop-place.invariant.no_more);
      some = grind (arith, common_steps, fewer);
      passed = λ k d before.
          let other : k ≢ i = omega arith in
          ap frozen (c.swap_remove.ensures.by_index.1 k d other (grind (arith, common_steps)))
          ∙ c.loop-place.invariant.passed k d before;
      within = omega arith;
    }
