-- Flows with weights while they rise. `frozen` says how many parts each one of a flow's weight has, once a full side
-- holds the flow, and None of a flow that still rises.
use Rattle.std.specs.Prelude.{◌≡◌, ◌↔◌, ◌⊎◌, ℕ, ◌-◌, ◌*◌, ◌<◌, ◌≤◌, List, All, Contains, Option, Some, None, IsSome}
use Rattle.std.specs.Prelude.{MatchOption, cond, count_by, length, map, option_map, slice_index, slice_index_or, sum_by}
use Rattle.std.specs.Option.{is_none}
use Rattle.fairness.specs.Fairness.Exists.{product}
use Rattle.fairness.specs.Fairness.Fair.{Side, IsLimited, IsFair}
use Rattle.fair_rates.specs.Filling.FairParts.{level_at}
use Rattle.fairness.specs.Filling.Frozen.{at_level}
use Rattle.fair_rates.specs.declared.bandwidth.parts.FairParts.{FairParts}
use Rattle.fair_routes.specs.Network.Weights.{weight_at, weighted}
use Rattle.fair_routes.specs.declared.routes.weighted.rising.Rising.{Rising}
use Rattle.fair_routes.specs.declared.routes.weighted.room.Room.{Room}

-- the parts of a flow in a list of them
abbrev pub frozen_in : List (Option ℕ) → ℕ → Option ℕ
frozen_in parts flow = slice_index_or parts flow None

-- the weight of those of the users that still rise
abbrev pub rising_weight : List ℕ → (ℕ → Option ℕ) → List ℕ → ℕ
rising_weight weights frozen users = sum_by (λ user. cond (is_none (frozen user)) (weight_at weights user) 0) users

-- what the others leave of the side, in parts
abbrev pub slack_of : List ℕ → ℕ → (ℕ → Option ℕ) → Side → ℕ
slack_of weights scale frozen side =
    side.cap * scale - sum_by (λ user. at_level frozen 0 user * weight_at weights user) side.users

-- no user of any side still rises
abbrev pub AreAllHeld : List ℕ → (ℕ → Option ℕ) → List Side → Type 0
AreAllHeld weights frozen sides = All (λ side. rising_weight weights frozen side.users ≡ 0) sides

-- the room is that of a side with users that still rise, and no side has less for each one of their weight
pub record HasLeastRoom (weights : List ℕ) (scale : ℕ) (frozen : ℕ → Option ℕ) (sides : List Side)
    (room : Room) : Type 0 where
  pub inside : room.place < length sides
  pub slack : (d : Side) → room.slack ≡ slack_of weights scale frozen (slice_index_or sides room.place d)
  pub weight : (d : Side) → room.weight ≡ rising_weight weights frozen (slice_index_or sides room.place d).users
  pub some : 0 < room.weight
  pub least : All (λ side. room.slack * rising_weight weights frozen side.users
      ≤ slack_of weights scale frozen side * room.weight) sides

-- of the least room so far, if there is any, and one more: the lesser for each one of weight
abbrev pub IsLesser : Option Room → Room → Option Room → Type 0
IsLesser least room result =
    ((result ≡ Some room) × (0 < room.weight)
    × MatchOption least (Unit {0}) (λ before. room.slack * before.weight < before.slack * room.weight))
    ⊎ ((result ≡ least)
    × MatchOption least (room.weight ≡ 0) (λ before. before.slack * room.weight ≤ room.slack * before.weight))

-- these users have parts now, each that had none the share, and nothing else has changed
pub record HasFrozen (users : List ℕ) (before after : List (Option ℕ)) (share : ℕ) : Type 0 where
  pub one_each : length after ≡ length before
  pub all : All (λ user. IsSome (frozen_in after user)) users
  pub kept : (flow parts : ℕ) → frozen_in before flow ≡ Some parts → frozen_in after flow ≡ Some parts
  pub fresh : (flow parts : ℕ) → frozen_in before flow ≡ None → frozen_in after flow ≡ Some parts
      → (parts ≡ share) × Contains users flow
  pub fewer : (flow : ℕ) → frozen_in before flow ≡ None → IsSome (frozen_in after flow)
      → count_by is_none after < count_by is_none before

-- all flows that use a side are held, and what they have is fair where each counts as often as its weight says
pub record AreFilledByWeight (sides : List Side) (weights : List ℕ) (rising : Rising) : Type 0 where
  pub grown : rising.scale ≡ product rising.growth.items
  pub factors : All (λ factor. 0 < factor) rising.growth.items
  pub one_each : length rising.parts.items ≡ length weights
  pub fair : IsFair (map (weighted weights) sides) rising.scale (at_level (frozen_in rising.parts.items) 0)
  pub limited : (flow : ℕ) → IsSome (frozen_in rising.parts.items flow) ↔ IsLimited sides flow

-- each flow that is held has a level of its own: its parts for each one of its weight together
pub record AreWeighed (weights : List ℕ) (rising : Rising) (found : FairParts) : Type 0 where
  pub scale : found.scale ≡ rising.scale
  pub growth : found.growth.items ≡ rising.growth.items
  pub one_each : length found.level_of.items ≡ length rising.parts.items
  pub levels_each : length found.levels.items ≡ length rising.parts.items
  pub place : (flow : ℕ) → level_at found.level_of.items flow
      ≡ option_map (λ _. flow) (frozen_in rising.parts.items flow)
  pub level : (flow : ℕ) → flow < length rising.parts.items
      → slice_index found.levels.items flow ≡ at_level (frozen_in rising.parts.items) 0 flow * weight_at weights flow
