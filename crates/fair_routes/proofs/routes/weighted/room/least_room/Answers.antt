use Rattle.fair_routes.proofs.Common.{ℕ, ◌<◌, ◌^◌, Option, length, map, sum_by, take, ◌∙◌, subst, sym, arith}
use Rattle.fair_routes.proofs.Common.{take_all, length-map, Side, side_of, frozen_in, weight_at, length-take-le}
use Rattle.fair_routes.proofs.Common.{all_unmapped}
use Rattle.fair_routes.specs.declared.routes.sides.LinkSide as declared
use Rattle.fair_routes.proofs.Network.Rising.{IsLeastOf, least_more}
use Rattle.fair_routes.proofs.Network.Users.{mapped_more}
use Rattle.fair_routes.proofs.routes.weighted.room.least_room.Goals as goal

pub room_on-requires-clause-little : goal.room_on-requires-clause-little
room_on-requires-clause-little c =
    let weigh = weight_at c.args.weights.now in
    let sides = c.args.sides.now in
    let i = c.loop-place.place in
    let side = c.index-sides-place.result in
    subst (λ (s : declared.LinkSide). sum_by weigh s.users.items < 2 ^ 64) (sym c.index-sides-place.is)
    (all_unmapped (λ (s : Side). sum_by weigh s.users < 2 ^ 64) side_of sides c.requires.little i side
    (omega (arith, c.loop-place-test.true)))

pub loop-place-preserved : goal.loop-place-preserved
loop-place-preserved c =
    let sides = c.args.sides.now in
    let i = c.loop-place.place in
    let side = c.index-sides-place.result in
    let room = c.in_ok-room.room in
    let inside : i < length sides = omega (arith, c.loop-place-test.true) in
    let weights = c.args.weights.now in
    let scale = c.args.scale.now in
    let frozen : ℕ → Option ℕ = frozen_in c.args.parts.now in
    let many = length-map (take i sides) side_of ∙ length-take-le i sides (omega (arith, inside)) in
    subst (λ ss. IsLeastOf weights scale frozen ss c.lesser-least.result)
    (sym (mapped_more side_of sides i side inside c.index-sides-place.is))
    (least_more weights scale frozen (map side_of (take i sides)) (side_of side) room
    (omega (arith, c.in_ok-room.ensures.place, many)) c.in_ok-room.ensures.slack c.in_ok-room.ensures.weight
    c.loop-place.least c.lesser-least.result c.loop-place.invariant c.lesser-least.ensures)

pub returns : goal.returns
returns c =
    subst (λ xs. IsLeastOf c.args.weights.now c.args.scale.now (frozen_in c.args.parts.now) (map side_of xs)
    c.loop-place.least) (take_all c.loop-place.place c.args.sides.now (omega (arith, c.loop-place-test.false)))
    c.loop-place.invariant
