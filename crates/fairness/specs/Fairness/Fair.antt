-- Max-min fairness by bottlenecks. A flow is its place in a list, and who the peers are plays no part.
-- A rate is a number of parts, `per` of which are one byte a second.
use Rattle.std.specs.Prelude.{◌≡◌, ℕ, ◌*◌, ◌<◌, ◌≤◌, List, All, Contains, sum_by}

-- what limits some flows together: its cap in bytes a second, and the places of the flows that use it
pub record Side : Type 0 where
  pub cap : ℕ
  pub users : List ℕ

-- what the users of a side get together
abbrev pub load : (ℕ → ℕ) → Side → ℕ
load parts side = sum_by parts side.users

-- the flow uses this side, which is one of the sides
pub record Uses (sides : List Side) (flow : ℕ) (side : Side) : Type 0 where
  pub listed : Contains sides side
  pub used : Contains side.users flow

-- the flow uses some side
abbrev pub IsLimited : List Side → ℕ → Type 0
IsLimited sides flow = (side : Side) × Uses sides flow side

-- no side carries more than its cap
abbrev pub IsWithinCaps : List Side → ℕ → (ℕ → ℕ) → Type 0
IsWithinCaps sides per parts = All (λ side. load parts side ≤ side.cap * per) sides

-- the flow's bottleneck: a full side that it uses, and on which no user has a greater rate
pub record HasBottleneck (sides : List Side) (per : ℕ) (parts : ℕ → ℕ) (flow : ℕ) : Type 0 where
  pub side : Side
  pub uses : Uses sides flow side
  pub full : load parts side ≡ side.cap * per
  pub greatest : All (λ other. parts other ≤ parts flow) side.users

-- the rates are within the caps, and each flow that uses a side has a bottleneck
pub record IsFair (sides : List Side) (per : ℕ) (parts : ℕ → ℕ) : Type 0 where
  pub some_part : 0 < per
  pub within : IsWithinCaps sides per parts
  pub held : (flow : ℕ) → IsLimited sides flow → HasBottleneck sides per parts flow
