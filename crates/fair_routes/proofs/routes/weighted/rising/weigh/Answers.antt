use Rattle.fair_routes.proofs.Common.{◌≡◌, ℕ, ◌*◌, ◌<◌, ◌++◌, [], ◌∷◌, List, Option, None, length, get_or, inl, inr}
use Rattle.fair_routes.proofs.Common.{refl, ap, sym, ◌∙◌, arith, option_map, unwrap_or, cases_lt, get_or_default}
use Rattle.fair_routes.proofs.Common.{at_level, frozen_in, weight_at, length-append, get_or_past}
use Rattle.fair_routes.proofs.Network.Rising.{pushed}
use Rattle.fair_routes.proofs.routes.weighted.rising.weigh.Goals as goal

pub loop-flow-preserved : goal.loop-flow-preserved
loop-flow-preserved c =
    let parts = c.deref-part-items.result.now in
    let weights = c.args.weights.now in
    let n = c.loop-flow.flow in
    let inv = c.loop-flow.invariant in
    let inside : n < length parts = omega (arith, c.loop-flow-test.true) in
    let part = c.part-item.is ∙ get_or_default parts n c.part-item.result None inside in
    let levels : List ℕ = c.loop-flow.levels.items in
    let level_of : List (Option ℕ) = c.loop-flow.level_of.items in
    let product : ℕ = c.in_ok-product.field-0 in
    let place : Option ℕ = c.place.result in
    let more : c.push.new.self.items ≡ levels ++ product ∷ [] = c.in_ok-push.ensures.items in
    let more_of : c.push-in-loop-flow.new.self.items ≡ level_of ++ place ∷ [] = c.in_ok-push-2.ensures.items in
    let is_product = c.in_ok-product.ensures ∙ ap (λ o. unwrap_or o 0 * weight_at weights n) part in
    let is_place = c.place.ensures ∙ ap (option_map (λ _. n)) part in
    record {
      one_each = omega (arith, ap length more_of, length-append {A = Option ℕ} level_of (place ∷ []), inv.one_each);
      levels_each = omega (arith, ap length more, length-append {A = ℕ} levels (product ∷ []), inv.levels_each);
      place = λ k within.
          ap (λ (xs : List (Option ℕ)). get_or xs k None) more_of
          ∙ pushed (λ j (o : Option ℕ). o ≡ option_map (λ _. j) (frozen_in parts j)) None level_of place n inv.one_each
          inv.place is_place k within;
      level = λ k within.
          ap (λ (xs : List ℕ). get_or xs k 0) more
          ∙ pushed (λ j (m : ℕ). m ≡ at_level (frozen_in parts) 0 j * weight_at weights j) 0 levels product n
          inv.levels_each inv.level is_product k within;
    }

pub returns : goal.returns
returns c =
    let parts = c.deref-part-items.result.now in
    let same : parts ≡ c.args.rising.parts.items = c.deref-part-items.ensures.value in
    let inv = c.loop-flow.invariant in
    let n = c.loop-flow.flow in
    let many : length parts ≡ n = omega (arith, c.loop-flow-test.false, c.loop-flow.auto.flow-end) in
    record {
      scale = refl;
      growth = refl;
      one_each = omega (arith, inv.one_each, many, ap length same);
      levels_each = omega (arith, inv.levels_each, many, ap length same);
      place = λ flow. elim (cases_lt flow n) [
        | inl inside ↦ inv.place flow inside ∙ ap (λ ps. option_map (λ _. flow) (frozen_in ps flow)) same
        | inr past ↦
            get_or_past c.loop-flow.level_of.items flow None (omega (arith, past, inv.one_each))
            ∙ sym (ap (option_map (λ _. flow))
            (get_or_past c.args.rising.parts.items flow None (omega (arith, past, many, ap length same))))
      ];
      level = λ flow inside.
          inv.level flow (omega (arith, inside, many, ap length same))
          ∙ ap (λ ps. at_level (frozen_in ps) 0 flow * weight_at c.args.weights.now flow) same;
    }
