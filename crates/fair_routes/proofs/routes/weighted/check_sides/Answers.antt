use Rattle.fair_routes.proofs.Common.{◌<◌, ◌^◌, length, map, sum_by, take, inl, inr, refl, ap, ◌∙◌, subst}
use Rattle.fair_routes.proofs.Common.{sym, arith, take_all, get_or-map, length-map, cases_lt, All-push, Side, side_of}
use Rattle.fair_routes.proofs.Common.{weight_at, HaveLittleWeight}
use Rattle.fair_routes.proofs.Network.Users.{mapped_more}
use Rattle.fair_routes.proofs.routes.weighted.check_sides.Goals as goal

pub returns-then-is_none-clause-refused : goal.returns-then-is_none-clause-refused
returns-then-is_none-clause-refused c =
    let sides = c.args.sides.now in
    let i = c.loop-side.side-index in
    let item = c.side-item.result in
    let weigh = weight_at c.args.weights.now in
    let inside : i < length sides = omega (arith, c.loop-side-test.true) in
    let at = get_or-map side_of sides i item (side_of item) inside ∙ ap side_of (sym c.side-item.is) in
    let none = c.if-is_none.ensures in (
      refl,
      record {
        side = side_of item;
        listed = (i, omega (arith, inside, length-map sides side_of), at);
        much = elim (cases_lt (sum_by weigh item.users.items) (2 ^ 64)) [
          | inl small ↦
              let some = c.weight_together.ensures.1 (subst (λ us. sum_by weigh us < 2 ^ 64) (sym c.deref.ensures.value) small) in
              absurd (cc)
          | inr much ↦ much
        ];
      },
    )

pub loop-side-preserved : goal.loop-side-preserved
loop-side-preserved c =
    let sides = c.args.sides.now in
    let i = c.loop-side.side-index in
    let item = c.side-item.result in
    let weigh = weight_at c.args.weights.now in
    let inside : i < length sides = omega (arith, c.loop-side-test.true) in
    let little : sum_by weigh item.users.items < 2 ^ 64 =
    subst (λ us. sum_by weigh us < 2 ^ 64) c.deref.ensures.value (c.weight_together.ensures.0 c.if-is_none.ensures) in
    subst (HaveLittleWeight c.args.weights.now) (sym (mapped_more side_of sides i item inside c.side-item.is))
    (All-push (λ (side : Side). sum_by weigh side.users < 2 ^ 64) (map side_of (take i sides)) (side_of item)
    c.loop-side.invariant little)

pub returns-clause-checked : goal.returns-clause-checked
returns-clause-checked c =
    subst (λ xs. HaveLittleWeight c.args.weights.now (map side_of xs))
    (take_all c.loop-side.side-index c.args.sides.now (omega (arith, c.loop-side-test.false))) c.loop-side.invariant
