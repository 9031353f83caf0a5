-- What is allocated on the sides of the links is what is promised, and so is what is refused.
use Rattle.fair_routes.proofs.Common.{◌≡◌, ℕ, zero, suc, ◌^◌, ◌<◌, ◌≤◌, List, [], ◌∷◌, length, map, get_or, All}
use Rattle.fair_routes.proofs.Common.{Contains, Option, Some, None, inl, inr, sym, ap, subst, arith, length-map, Side}
use Rattle.fair_routes.proofs.Common.{AreFairRates, Rate, sides_over, AreListed, common_steps, HasDifferentRates}
use Rattle.fair_routes.proofs.Common.{all_unmapped}
use Rattle.fairness.specs.Refusals.TooLarge.{HasLargeRate}
use Rattle.fair_rates.specs.Sides.SideOf.{side_of}
use Rattle.fair_rates.specs.declared.bandwidth.sides.Side as declared
use Rattle.fairness.proofs.Fairness.Allocation.{the_allocation}
use Rattle.fairness.proofs.Refusals.Fitting.{large_does_not_fit}
use Rattle.fair_rates.proofs.Refusals.Promise.{twelfths, whole_of_sixteen, too_many_or_large}
use Rattle.fair_routes.specs.Network.Allocation.{IsAllocated, IsCounted, HasLargeCap, AreTooLarge}
use Rattle.fair_routes.proofs.Network.LinkSides.{link_side, users_are_flows, users_are_distinct}

-- the users of sides, however they are kept, are flows
pub code_users : {X : Type 0} (read : X → Side) (n : ℕ) (all : List Side) (sides : List X) → map read sides ≡ all
    → All (λ side. All (λ user. user < n) side.users) all → All (λ side. All (λ user. user < n) (read side).users) sides
code_users read n all sides are below =
    all_unmapped (λ side. All (λ user. user < n) side.users) read sides
    (subst (All (λ side. All (λ user. user < n) side.users)) (sym are) below)

-- a cap that a link has is one of the list
capped : (caps : List (Option ℕ)) (link cap : ℕ) → get_or caps link None ≡ Some cap → Contains caps (Some cap)
capped [] link cap is = cc
capped (c ∷ caps) zero cap is = (0, omega arith, is)
capped (c ∷ caps) (suc link) cap is =
    let further = capped caps link cap is in (suc further.0, omega (arith, further.1), further.2)

module _ (caps : List (Option ℕ)) (routes : List (List ℕ)) (listed : AreListed (length caps) routes) where
  pub allocated : (rates : List Rate) → AreFairRates (sides_over caps routes) (length routes) rates
      → IsAllocated caps routes rates
  allocated rates fair =
      let sides = sides_over caps routes in
      let flows = length routes in
      let among = users_are_flows caps routes in
      let distinct = users_are_distinct caps routes in
      let one = the_allocation sides flows rates among fair in
      record {
        listed = listed;
        fair = fair;
        only = one.only;
        max_min = one.max_min;
        zero = one.zero;
        of_four = λ few. twelfths sides flows rates few among distinct fair;
        of_sixteen = λ few. whole_of_sixteen sides flows rates few among distinct fair;
      }

  pub counted : (sides : List declared.Side) (rates : List Rate) (rounds : ℕ)
      → map side_of sides ≡ sides_over caps routes → AreFairRates (map side_of sides) (length routes) rates
      → HasDifferentRates rates rounds → rounds ≤ length sides → IsCounted caps routes rates rounds
  counted sides rates rounds are fair different few = record {
    allocated = allocated rates (subst (λ (ss : List Side). AreFairRates ss (length routes) rates) are fair);
    different = different;
    few = omega (arith, few, ap length are, length-map sides side_of);
  }

  -- a cap of a side is that of a link
  large_cap : (side : Side) → Contains (sides_over caps routes) side → 2 ^ 64 ≤ side.cap → HasLargeCap caps
  large_cap side has large = grind (arith, common_steps, link_side caps routes side has, capped)

  pub too_large : (sides : List declared.Side) → map side_of sides ≡ sides_over caps routes
      → HasLargeRate (map side_of sides) → AreTooLarge caps routes
  too_large sides are large =
      let over = sides_over caps routes in
      let among = users_are_flows caps routes in
      let large_over : HasLargeRate over = subst HasLargeRate are large in
      let refused = large_does_not_fit over (length routes) among large_over in
      record {
        listed = listed;
        large_rate = large_over;
        nothing_fits = refused;
        many_or_large =
            elim (too_many_or_large over (length routes) among (users_are_distinct caps routes) refused) [
              | inl many ↦ inl many
              | inr (side, has, big) ↦ inr (large_cap side has big)
            ];
      }
