use Rattle.fair_routes.proofs.Common.{◌≡◌, ℕ, ◌*◌, ◌<◌, ◌≤◌, option_map, frozen_in}
use Rattle.fair_routes.proofs.routes.weighted.rising.multiply_each.Given as goal

abbrev pub invariant-loop-part : goal.invariant-loop-part
invariant-loop-part l = record {
  done : (k : ℕ) → k < l.part-index
      → frozen_in l.parts k ≡ option_map (λ n. n * l.factor) (frozen_in l.initial.parts k);
  rest : (k : ℕ) → l.part-index ≤ k → frozen_in l.parts k ≡ frozen_in l.initial.parts k;
}
