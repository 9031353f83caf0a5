-- Flows that rise together, and those that stay where they are.
-- All is in whole parts, so many of which are one unit of the caps. `frozen` says at how many a flow stays, and None of
-- a flow that still rises.
use Rattle.std.specs.Prelude.{◌≡◌, ℕ, List, All, Option, None, IsSome, unwrap_or}
use Rattle.fairness.specs.Fairness.Fair.{Side}

-- what each flow has: the parts at which it is frozen, or else the level
abbrev pub at_level : (ℕ → Option ℕ) → ℕ → ℕ → ℕ
at_level frozen level flow = unwrap_or (frozen flow) level

-- none of these users is frozen
abbrev pub AllRise : (ℕ → Option ℕ) → List ℕ → Type 0
AllRise frozen users = All (λ flow. frozen flow ≡ None) users

-- all of them are frozen
abbrev pub AllFrozen : (ℕ → Option ℕ) → List ℕ → Type 0
AllFrozen frozen users = All (λ flow. IsSome (frozen flow)) users

-- all users of all sides are frozen
abbrev pub AllFilled : List Side → (ℕ → Option ℕ) → Type 0
AllFilled sides frozen = All (λ side. AllFrozen frozen side.users) sides
