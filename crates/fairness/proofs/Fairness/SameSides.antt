-- Fairness depends on the set of sides alone.
use Rattle.fairness.proofs.Common.{ℕ, ◌*◌, ◌≤◌, List, All-contains, Rate, Unlimited, Finite, Side, load, IsLimited}
use Rattle.fairness.proofs.Common.{IsFair, HasBottleneck, IsRateOf, arith, common_steps}
use Rattle.std.specs.Prelude.{◌↔◌}
use Rattle.fairness.specs.Fairness.Laws.{AreTheSameSides, FairnessIsOfTheSet}
use Rattle.fairness.proofs.Lists.SumOrder.{All-from_contains}

module _ (xs ys : List Side) (same : AreTheSameSides xs ys) where
  there : (flow : ℕ) → IsLimited xs flow → IsLimited ys flow
  there flow (side, u) = (side, record { listed = (same side).0 u.listed; used = u.used })

  back : (flow : ℕ) → IsLimited ys flow → IsLimited xs flow
  back flow (side, u) = (side, record { listed = (same side).1 u.listed; used = u.used })

  pub still_limited : (flow : ℕ) → IsLimited xs flow ↔ IsLimited ys flow
  still_limited flow = (there flow, back flow)

  moved : (per : ℕ) (parts : ℕ → ℕ) (flow : ℕ) → HasBottleneck xs per parts flow → HasBottleneck ys per parts flow
  moved per parts flow h = record {
    side = h.side;
    uses = record { listed = (same h.side).0 h.uses.listed; used = h.uses.used };
    full = h.full;
    greatest = h.greatest;
  }

  pub still_fair : (per : ℕ) (parts : ℕ → ℕ) → IsFair xs per parts → IsFair ys per parts
  still_fair per parts f = record {
    some_part = f.some_part;
    within = All-from_contains (λ s. load parts s ≤ s.cap * per) ys (λ s listed.
        All-contains (λ s. load parts s ≤ s.cap * per) xs s f.within ((same s).1 listed));
    held = λ flow limited. moved per parts flow (f.held flow (back flow limited));
  }

  still_rate : (per : ℕ) (parts : ℕ → ℕ) (flow : ℕ) (r : Rate) → IsRateOf xs per parts flow r
      → IsRateOf ys per parts flow r
  still_rate per parts flow Unlimited h = λ limited. h (back flow limited)
  still_rate per parts flow (Finite r) h = (there flow h.0, h.1)

pub fairness_is_of_the_set : FairnessIsOfTheSet
fairness_is_of_the_set xs ys flows rates same f =
    grind (arith, common_steps, still_fair xs ys same f.per f.parts f.fair, still_rate)
