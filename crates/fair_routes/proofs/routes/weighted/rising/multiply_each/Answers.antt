use Rattle.fair_routes.proofs.Common.{ℕ, ◌*◌, ◌<◌, Option, None, length, map, sym, ◌∙◌, arith, option_map, get_or-map}
use Rattle.fair_routes.proofs.Common.{length-map, ext_get_or}
use Rattle.fair_routes.proofs.routes.weighted.rising.multiply_each.Goals as goal

pub returns : goal.returns
returns c =
    let times : Option ℕ → Option ℕ = option_map (λ n. n * c.args.factor) in
    let old = c.args.parts.now in
    ext_get_or None c.loop-part.parts (map times old) (omega (arith, length-map old times, c.loop-part.auto.parts)) (λ k within.
    let inside : k < length old = omega (arith, within, c.loop-part.auto.parts) in
    c.loop-part.invariant.done k (omega (arith, inside, c.loop-part-test.false))
    ∙ sym (get_or-map times old k None None inside))
