use Rattle.fair_routes.proofs.Common.{◌≡◌, ℕ, ◌+◌, ◌<◌, ◌≤◌, Option, Some, None, get_or, set, length, subst, sym, ap}
use Rattle.fair_routes.proofs.Common.{◌∙◌, take, arith, count_by, unwrap_or, is_none, common_steps, take_more, take_all}
use Rattle.fair_routes.proofs.Common.{get_or_default, frozen_in, HasFrozen}
use Rattle.fair_routes.proofs.Network.Rising.{frozen_none, frozen_more, no_more_held}
use Rattle.fair_routes.proofs.routes.weighted.rising.freeze.Goals as goal

pub loop-user-init : goal.loop-user-init
loop-user-init c = record { frozen = frozen_none c.args.parts.now c.args.share.now; no_more = omega arith }

pub loop-user-preserved : goal.loop-user-preserved
loop-user-preserved c =
    let mid = c.loop-user.parts in
    let users = c.args.users.now in
    let i = c.loop-user.user-index in
    let share = c.args.share.now in
    let user = get_or users i 0 in
    let inside : i < length users = omega (arith, c.loop-user-test.true) in
    let below : user < length mid = grind (arith, common_steps, c.requires) in
    let now : c.hold.new.part ≡ Some (unwrap_or (frozen_in mid user) share) =
    c.in_ok-hold.ensures ∙ ap (λ o. Some (unwrap_or o share)) (get_or_default mid user c.index-parts-user.result None below) in
    let more = frozen_more mid user share below c.args.parts.now (take i users) c.loop-user.invariant.frozen
    c.loop-user.invariant.no_more in
    let held = no_more_held mid user share below in
    let P : Option ℕ → Type 0 = λ o. record {
      frozen : HasFrozen (take (i + 1) users) c.args.parts.now (set mid user o) share;
      no_more : count_by is_none (set mid user o) ≤ count_by is_none c.args.parts.now;
    } in
    subst P (sym now) (record {
      frozen = subst (λ xs. HasFrozen xs c.args.parts.now (set mid user (Some (unwrap_or (frozen_in mid user) share))) share)
          (sym (take_more users i 0 inside)) more;
      no_more = omega (arith, held, c.loop-user.invariant.no_more);
    })

pub returns : goal.returns
returns c =
    subst (λ xs. HasFrozen xs c.args.parts.now c.loop-user.parts c.args.share.now)
    (take_all c.loop-user.user-index c.args.users.now (omega (arith, c.loop-user-test.false)))
    c.loop-user.invariant.frozen
