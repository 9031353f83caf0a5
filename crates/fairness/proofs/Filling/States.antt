-- The states between the rounds of filling.
-- `frozen` says at how many parts a flow stays, and None of a flow that still rises.
use Rattle.std.specs.Prelude.{◌≡◌, ℕ, ◌*◌, ◌≤◌, List, All, Option, Some, None, IsSome}
use Rattle.fairness.proofs.Common.{Side, load, Uses, IsWithinCaps, HasBottleneck, at_level}

-- the side is full where the rising flows stand at this level
abbrev pub IsFullAt : ℕ → (ℕ → Option ℕ) → ℕ → Side → Type 0
IsFullAt per frozen level side = load (at_level frozen level) side ≡ side.cap * per

-- the flow has a bottleneck of which all users are frozen
pub record IsHeld (sides : List Side) (per : ℕ) (frozen : ℕ → Option ℕ) (flow : ℕ) : Type 0 where
  pub bottleneck : HasBottleneck sides per (at_level frozen 0) flow
  pub all_frozen : All (λ other. IsSome (frozen other)) bottleneck.side.users

-- between two rounds: the level is within the caps, and each frozen flow stays at or below it
pub record IsFilledTo (sides : List Side) (per : ℕ) (frozen : ℕ → Option ℕ) (level : ℕ) : Type 0 where
  pub within : IsWithinCaps sides per (at_level frozen level)
  pub below : (flow : ℕ) → at_level frozen 0 flow ≤ level
  pub held : (flow : ℕ) → IsSome (frozen flow) → IsHeld sides per frozen flow

-- the flow uses a side that is full at this level and whose users are all frozen in `next`
pub record IsFilledBy (sides : List Side) (per : ℕ) (frozen : ℕ → Option ℕ) (level : ℕ) (next : ℕ → Option ℕ)
    (flow : ℕ) : Type 0 where
  pub side : Side
  pub uses : Uses sides flow side
  pub full : IsFullAt per frozen level side
  pub all_frozen : All (λ other. IsSome (next other)) side.users

-- a round raises the level, and freezes there users of sides that are full
pub record IsNextRound (sides : List Side) (per : ℕ) (frozen : ℕ → Option ℕ) (level : ℕ) (next : ℕ → Option ℕ)
    (next_level : ℕ) : Type 0 where
  pub raised : level ≤ next_level
  pub within : IsWithinCaps sides per (at_level frozen next_level)
  pub kept : (flow parts : ℕ) → frozen flow ≡ Some parts → next flow ≡ Some parts
  pub fresh : (flow parts : ℕ) → frozen flow ≡ None → next flow ≡ Some parts
      → (parts ≡ next_level) × IsFilledBy sides per frozen next_level next flow
