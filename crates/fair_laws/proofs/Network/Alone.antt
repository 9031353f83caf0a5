-- A flow alone.
use Rattle.fair_laws.proofs.Common.{rules, ◌≡◌, ℕ, ◌*◌, ◌<◌, ◌≤◌, List, [], ◌∷◌, Bool, true, false, cond, Option}
use Rattle.fair_laws.proofs.Common.{Some, None, get_or, Contains, sum_by, refl, sym, ap, ◌∙◌, arith, ◌||◌}
use Rattle.fair_laws.proofs.Common.{eq_of_mul-eq-mul_right, All-contains, sum_by-cons, Side, IsLimited, IsFair}
use Rattle.fair_laws.proofs.Common.{IsRateOf, Rate, Unlimited, Finite, Ratio, none_or_some, has_link, sides_over}
use Rattle.fair_laws.proofs.Common.{common_steps, IsWorth}
use Rattle.std.proofs.Math.Nat.{le_of_mul-le-mul_right}
use Rattle.fair_routes.specs.Network.Laws.{IsLeastCap, IsLeastOfCaps, AloneIsTheLeastCap}
use Rattle.fair_routes.proofs.Network.LinkSides.{link_side, side_listed}

module _ (caps : List (Option ℕ)) (route : List ℕ) where
  abbrev sides : List Side
  sides = sides_over caps (route ∷ [])

  -- a link of the route with a cap makes a side
  own : (link cap : ℕ) → has_link link route ≡ true → get_or caps link None ≡ Some cap
      → Contains sides (record { cap = cap; users = 0 ∷ [] })
  own link cap on capped = search (rules, side_listed)

  limited : (link cap : ℕ) → has_link link route ≡ true → get_or caps link None ≡ Some cap → IsLimited sides 0
  limited link cap on capped = search (rules, own)

  -- the flow uses the link of a side
  on_route : (link : ℕ) (test : Bool) → has_link link route ≡ test → (cond test true false || false) ≡ true → test ≡ true
  on_route link true is used = refl
  on_route link false is used = cc

  load_one : (parts : ℕ → ℕ) → sum_by parts (0 ∷ []) ≡ parts 0
  load_one parts = omega (arith, sum_by-cons parts 0 [])

  module _ (per : ℕ) (parts : ℕ → ℕ) (fair : IsFair sides per parts) where
    at_most : (link more : ℕ) → has_link link route ≡ true → get_or caps link None ≡ Some more → parts 0 ≤ more * per
    at_most link more on capped = search (rules, All-contains, own, load_one)

    least : (ratio : Ratio) → IsLimited sides 0 → IsWorth ratio (record { num = parts 0; den = per })
        → (cap : ℕ) × IsLeastCap caps route cap × IsWorth ratio (record { num = cap; den = 1 })
    least ratio some worth =
        let b = fair.held 0 some in
        let of = link_side caps (route ∷ []) b.side b.uses.listed in
        let on : has_link of.link route ≡ true = on_route of.link (has_link of.link route) refl (used of.link of.used) in
        let users : b.side.users ≡ 0 ∷ [] = of.users ∙ (rw on refl) in
        let full : parts 0 ≡ b.side.cap * per = sym (ap (sum_by parts) users ∙ load_one parts) ∙ b.full in (
          b.side.cap,
          record {
            link = of.link;
            on_route = on;
            capped = of.capped;
            least = λ other more has capped. below b.side.cap more per fair.some_part
                (omega (arith, at_most other more has capped, full));
          },
          worth_of ratio.numerator ratio.denominator b.side.cap per (parts 0) fair.some_part worth full,
        )
      where
        used : (link : ℕ) → (has_link link route || false) ≡ true → (cond (has_link link route) true false || false) ≡ true
        used link e = by_test (has_link link route) e
          where
            by_test : (t : Bool) → (t || false) ≡ true → (cond t true false || false) ≡ true
            by_test true e = refl
            by_test false e = e

        below : (cap more per : ℕ) → 0 < per → cap * per ≤ more * per → cap ≤ more
        below cap more per some le = le_of_mul-le-mul_right le some

        worth_of : (num den cap per parts : ℕ) → 0 < per → num * per ≡ parts * den → parts ≡ cap * per
            → num * 1 ≡ cap * den
        worth_of num den cap per parts some worth full =
            let same : num * per ≡ cap * den * per = omega (arith, worth, ap (λ n. n * den) full) in
            let is = eq_of_mul-eq-mul_right per some num (cap * den) same in
            omega (arith, is)

  by_rate : (per : ℕ) (parts : ℕ → ℕ) → IsFair sides per parts → (rate : Rate) → IsRateOf sides per parts 0 rate
      → IsLeastOfCaps caps route rate
  by_rate per parts fair Unlimited none = grind (arith, common_steps, none_or_some, limited)
  by_rate per parts fair (Finite ratio) (some, worth) = least per parts fair ratio some worth

pub a_flow_alone_has_the_least_cap : AloneIsTheLeastCap
a_flow_alone_has_the_least_cap caps route rate fair = search (rules, by_rate)
