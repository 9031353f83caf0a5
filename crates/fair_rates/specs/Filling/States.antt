-- Filling: the flows rise together, and the users of a side that is full stay where they are.
-- All is in whole parts, `scale` of which are one unit of the caps. `frozen` says at how many a flow stays, and None of
-- a flow that still rises.
use Rattle.std.specs.Prelude.{◌≡◌, ◌≢◌, ℕ, ◌+◌, ◌-◌, ◌*◌, ◌<◌, ◌≤◌, ◌⊎◌, List, []}
use Rattle.std.specs.Prelude.{◌∷◌, ◌++◌, All, AllPairs, Contains, length, map, sum_by, IsPermutation, Option, Some, None}
use Rattle.std.specs.Prelude.{IfSome, slice_index, option_map}
use Rattle.std.specs.BinaryHeap.{IsHeap}
use Rattle.std.specs.declared.cmp.Ordering.{Ordering}
use Rattle.std.specs.declared.cmp.Reverse.{Reverse}
use Rattle.fairness.specs.Fairness.Fair.{Side}
use Rattle.fair_rates.specs.Filling.FairParts.{level_at, AreFairPartsOn}
use Rattle.fairness.specs.Filling.Frozen.{at_level, AllRise, AllFrozen}
use Rattle.fairness.specs.Numbers.Fraction.{fraction_cmp}
use Rattle.fair_rates.specs.Sides.SideOf.{side_of}
use Rattle.fair_rates.specs.declared.bandwidth.filling.open.OpenSide.{OpenSide}
use Rattle.fair_rates.specs.declared.bandwidth.parts.FairParts.{FairParts}
use Rattle.fair_rates.specs.declared.bandwidth.sides.Side as declared

-- ---- flows

-- at how many parts a flow is frozen, if it is: those of its level
abbrev pub frozen_at : List ℕ → List (Option ℕ) → ℕ → Option ℕ
frozen_at levels level_of flow = option_map (slice_index levels) (level_at level_of flow)

-- the places of the flows' levels are places of levels
abbrev pub AreInside : List ℕ → List (Option ℕ) → Type 0
AreInside levels level_of = All (λ level. IfSome level (λ place. place < length levels)) level_of

-- how many flows rise where one has that place: one, if it is none
abbrev pub rises : Option ℕ → ℕ
rises None = 1
rises (Some place) = 0

-- ---- levels

-- the last of the levels
abbrev pub top : List ℕ → ℕ
top levels = slice_index levels (length levels - 1)

-- the level is the last of the levels afterwards, which is a new one if it was not before
pub record IsRaised (before after : List ℕ) (level : ℕ) : Type 0 where
  pub some : 0 < length after
  pub last : top after ≡ level
  pub same_or_new : (after ≡ before) ⊎ ((after ≡ before ++ level ∷ []) × ((before ≡ []) ⊎ (top before ≢ level)))

-- these users have the last level, and the others what they had
pub record AreAtTop (users : List ℕ) (before after : List (Option ℕ)) (levels : List ℕ) : Type 0 where
  pub one_each : length after ≡ length before
  pub all : All (λ flow. level_at after flow ≡ Some (length levels - 1)) users
  pub others : (flow : ℕ) → Contains users flow ⊎ (level_at after flow ≡ level_at before flow)

-- ---- open sides

-- how the shares of two open sides stand to each other
abbrev pub share_cmp : OpenSide → OpenSide → Ordering
share_cmp a b = fraction_cmp a.slack (length a.rising.items) b.slack (length b.rising.items)

-- the least share comes first
abbrev pub queue_cmp : Reverse OpenSide → Reverse OpenSide → Ordering
queue_cmp a b = share_cmp b.0 a.0

-- so many parts for each of these users are no more than the slack
abbrev pub IsWithinSlack : ℕ → ℕ → List ℕ → Type 0
IsWithinSlack parts slack users = parts * length users ≤ slack

-- none of the users is frozen at more than the share
abbrev pub HaveNoMore : (ℕ → Option ℕ) → ℕ → List ℕ → Type 0
HaveNoMore frozen slack users = All (λ flow. IsWithinSlack (at_level frozen 0 flow) slack users) users

-- some frozen users of the side are counted, the slack is what they leave of its cap, and these are the others
pub record KeepsAccount (side : Side) (scale : ℕ) (frozen : ℕ → Option ℕ) (slack : ℕ) (rising : List ℕ) : Type 0 where
  pub counted : List ℕ
  pub parted : IsPermutation side.users (counted ++ rising)
  pub done : AllFrozen frozen counted
  pub left : slack + sum_by (at_level frozen 0) counted ≡ side.cap * scale

-- of a side that left so much for some users, more of these are counted
pub record HaveBeenCounted (flows : ℕ) (frozen : ℕ → Option ℕ) (before : ℕ) (had : List ℕ)
    (slack : ℕ) (rising : List ℕ) : Type 0 where
  pub account : (side : Side) (scale : ℕ) → KeepsAccount side scale frozen before had
      → KeepsAccount side scale frozen slack rising
  pub users : All (λ flow. flow < flows) rising
  pub no_lower : (parts : ℕ) → IsWithinSlack parts before had → IsWithinSlack parts slack rising
  pub changed : (length rising < length had) ⊎ ((slack ≡ before) × (length rising ≡ length had))

-- the open side keeps account of one of the sides
abbrev pub IsOpen : List Side → ℕ → (ℕ → Option ℕ) → Reverse OpenSide → Type 0
IsOpen sides scale frozen open_side =
    (side : Side) × Contains sides side × KeepsAccount side scale frozen open_side.0.slack open_side.0.rising.items

-- the users of the side are all frozen, or one of the open sides keeps account of it
abbrev pub IsCovered : ℕ → (ℕ → Option ℕ) → List (Reverse OpenSide) → Side → Type 0
IsCovered scale frozen opens side =
    AllFrozen frozen side.users ⊎ ((open_side : Reverse OpenSide) × Contains opens open_side
    × KeepsAccount side scale frozen open_side.0.slack open_side.0.rising.items)

-- the open sides are of some sides, and each side with rising users has one
pub record IsQueue (sides : List Side) (scale : ℕ) (frozen : ℕ → Option ℕ)
    (opens : List (Reverse OpenSide)) : Type 0 where
  pub each : All (IsOpen sides scale frozen) opens
  pub covered : All (IsCovered scale frozen opens) sides

-- the open sides are of these sides, whoever is frozen, and their users are users of these
pub record AreOpened (sides : List declared.Side) (opens : List (Reverse OpenSide)) : Type 0 where
  pub queue : (frozen : ℕ → Option ℕ) → IsQueue (map side_of sides) 1 frozen opens
  pub users : (flows : ℕ) → All (λ side. All (λ flow. flow < flows) side.users.items) sides
      → All (λ open_side. All (λ flow. flow < flows) open_side.0.rising.items) opens

-- the users are flows, none has more than the share, and the least share is on top
pub record IsShareQueue (flows : ℕ) (frozen : ℕ → Option ℕ) (opens : List (Reverse OpenSide)) : Type 0 where
  pub users : All (λ open_side. All (λ flow. flow < flows) open_side.0.rising.items) opens
  pub no_more : All (λ open_side. HaveNoMore frozen open_side.0.slack open_side.0.rising.items) opens
  pub order : IsHeap queue_cmp opens

-- so many parts are within the share of each open side
abbrev pub AreAbove : ℕ → List (Reverse OpenSide) → Type 0
AreAbove parts opens = All (λ open_side. IsWithinSlack parts open_side.0.slack open_side.0.rising.items) opens

-- the others have no less of a share than this open side
abbrev pub HaveNoLessShare : OpenSide → List (Reverse OpenSide) → Type 0
HaveNoLessShare next opens = All (λ open_side. next.slack * length open_side.0.rising.items
    ≤ open_side.0.slack * length next.rising.items) opens

-- the share of this open side is no greater than those of the others, and none of its users is frozen
pub record IsLeast (frozen : ℕ → Option ℕ) (next : OpenSide) (opens : List (Reverse OpenSide)) : Type 0 where
  pub rise : AllRise frozen next.rising.items
  pub least : HaveNoLessShare next opens

-- the same open side at so many times the scale
pub record IsGrown (factor : ℕ) (old new : OpenSide) : Type 0 where
  pub slack : new.slack ≡ old.slack * factor
  pub rising : new.rising.items ≡ old.rising.items

-- each open side has a grown one among the new, and these are all
pub record AreGrown (factor : ℕ) (old new : List (Reverse OpenSide)) : Type 0 where
  pub each : All (λ b. (a : Reverse OpenSide) × Contains old a × IsGrown factor a.0 b.0) new
  pub all : All (λ a. (b : Reverse OpenSide) × Contains new b × IsGrown factor a.0 b.0) old

-- ---- the end

-- the flows' levels are fair on the sides, the levels are different, and each is of some flow
pub record AreFilled (sides : List Side) (flows : ℕ) (found : FairParts) : Type 0 where
  pub parts : AreFairPartsOn sides flows found
  pub open parts use *
  pub rising : AllPairs (λ a b. a < b) found.levels.items
  pub reached : (place : ℕ) → place < length found.levels.items
      → (flow : ℕ) × (level_at found.level_of.items flow ≡ Some place)
  pub few : length found.levels.items ≤ length sides
