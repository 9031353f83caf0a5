use Rattle.fair_routes.proofs.Common.{◌≡◌, ◌<◌, ℕ, List, None, length, get_or, sym, refl, ap, subst, ◌∙◌, arith}
use Rattle.fair_routes.proofs.Common.{common_steps, vec_len}
use Rattle.std.proofs.lemmas.Bool.Decides.{nat_tests}
use Rattle.fair_routes.specs.declared.routes.sides.LinkSide as declared
use Rattle.fair_routes.proofs.Network.Sides.{AreMade, made_none, made_uncapped, made_unused, made_side, made_all}
use Rattle.fair_routes.proofs.Network.Sides.{popped}
use Rattle.fair_routes.proofs.routes.sides.capped_sides.Goals as goal

pub loop-flows-init : goal.loop-flows-init
loop-flows-init c = record {
  few = omega (arith, c.requires);
  made = λ routes are.
      subst (λ (n : ℕ). AreMade n c.args.caps.now routes c.args.users.items c.new-sides.result.items) (sym c.requires)
      (subst (λ (sides : List declared.LinkSide). AreMade (length c.args.caps.now) c.args.caps.now routes c.args.users.items sides)
      (sym c.new-sides.ensures.items) (made_none c.args.caps.now routes c.args.users.items are));
}

pub loop-flows-preserved-in-Continue-1 : goal.loop-flows-preserved-in-Continue-1
loop-flows-preserved-in-Continue-1 c =
    let users = c.pop.new.self in
    let link = vec_len users in
    let inside : link < length c.args.caps.now = omega (arith, c.loop-flows.invariant.few, c.in-Some.ensures.len) in
    let capped = ap (λ n. get_or c.args.caps.now n None) (sym c.len.ensures) ∙ c.in-Some-caps.is in
    record {
      few = omega (arith, inside);
      made = λ routes are.
          subst (λ (sides : List declared.LinkSide). AreMade link c.args.caps.now routes users.items sides)
          (sym c.in_ok-push.ensures.items)
          (made_side link c.args.caps.now routes users.items c.in-Some.flows c.loop-flows.sides.items inside
          (omega (arith, users.ok.0))
          (popped link c.args.caps.now routes users.items c.loop-flows.users.items c.in-Some.flows
          c.loop-flows.sides.items (vec_len c.loop-flows.users) (omega (arith, c.in-Some.ensures.len))
          c.in-Some.ensures.items (c.loop-flows.invariant.made routes are))
          c.in-Some-caps.cap (record { cap = c.in-Some-caps.cap; users = c.in-Some.flows }) capped
          (grind (arith, common_steps, nat_tests, c.is_empty.ensures, c.if-not-is_empty.true)) refl refl);
    }

pub loop-flows-preserved-else-not-is_empty : goal.loop-flows-preserved-else-not-is_empty
loop-flows-preserved-else-not-is_empty c =
    let users = c.pop.new.self in
    let link = vec_len users in
    let inside : link < length c.args.caps.now = omega (arith, c.loop-flows.invariant.few, c.in-Some.ensures.len) in
    let capped = ap (λ n. get_or c.args.caps.now n None) (sym c.len.ensures) ∙ c.in-Some-caps.is in
    record {
      few = omega (arith, inside);
      made = λ routes are.
          made_unused link c.args.caps.now routes users.items c.in-Some.flows c.loop-flows.sides.items inside
          (omega (arith, users.ok.0))
          (popped link c.args.caps.now routes users.items c.loop-flows.users.items c.in-Some.flows
          c.loop-flows.sides.items (vec_len c.loop-flows.users) (omega (arith, c.in-Some.ensures.len))
          c.in-Some.ensures.items (c.loop-flows.invariant.made routes are))
          c.in-Some-caps.cap capped
          (grind (arith, common_steps, nat_tests, c.is_empty.ensures, c.if-not-is_empty.false));
    }

pub loop-flows-preserved : goal.loop-flows-preserved
loop-flows-preserved c =
    let users = c.pop.new.self in
    let link = vec_len users in
    let inside : link < length c.args.caps.now = omega (arith, c.loop-flows.invariant.few, c.in-Some.ensures.len) in
    let none = ap (λ n. get_or c.args.caps.now n None) (sym c.len.ensures) ∙ c.in_default-caps.is in
    record {
      few = omega (arith, inside);
      made = λ routes are.
          made_uncapped link c.args.caps.now routes users.items c.in-Some.flows c.loop-flows.sides.items inside
          (omega (arith, users.ok.0))
          (popped link c.args.caps.now routes users.items c.loop-flows.users.items c.in-Some.flows
          c.loop-flows.sides.items (vec_len c.loop-flows.users) (omega (arith, c.in-Some.ensures.len))
          c.in-Some.ensures.items (c.loop-flows.invariant.made routes are))
          none;
    }

pub returns : goal.returns
returns c = λ routes are.
    let none : vec_len c.loop-flows.users ≡ 0 = omega (arith, c.in_default.ensures.cases) in
    made_all c.args.caps.now routes c.loop-flows.users.items c.loop-flows.sides.items c.reverse.new.self.items
    (c.reverse.ensures.items)
    (subst (λ (n : ℕ). AreMade n c.args.caps.now routes c.loop-flows.users.items c.loop-flows.sides.items) none
    (c.loop-flows.invariant.made routes are))
