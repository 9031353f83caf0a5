-- The users of the capped sides of messages are places of messages, each once on a side.
use Rattle.link_simulation.proofs.Common.{arith, ◌≡◌, ℕ, ◌<◌, ◌≤◌, List, length, true, Some, All, Ordering}
use Rattle.link_simulation.proofs.Common.{IsTotalOrder, Side, same_peer, Message, Caps, capped_sides, In}
use Rattle.link_simulation.proofs.Common.{All-from_contains}
use Rattle.std.specs.Prelude.{◌≢◌}
use Rattle.std.specs.List.{AllPairs}
use Rattle.fairness.specs.Fairness.Laws.{HaveUsersBelow}
use Rattle.fairness.proofs.Lists.Places.{places_apart, places_below}
use Rattle.fairness.proofs.Sides.UserCounts.{HaveDistinctUsers}
use Rattle.link_simulation.proofs.Laws.PartRates.{Kind, cap_at, side_at, from_sides}

module _ {P : Type 0} (cmp : P → P → Ordering) (order : IsTotalOrder cmp)
    (itself : (p : P) → same_peer cmp p p ≡ true) where
  pub users_below : (caps : Caps P) (ms : List (Message P)) (n : ℕ) → length ms ≤ n
      → HaveUsersBelow n (capped_sides cmp caps ms)
  users_below caps ms n few = All-from_contains _ _ (λ s has. by_side s (from_sides cmp caps ms s has))
    where
      by_side : (s : Side) → (m : Message P) × In ms m
          × ((k : Kind) × (cap : ℕ) × (cap_at cmp caps k m ≡ Some cap) × (s ≡ side_at cmp caps k ms m cap))
          → All (λ user. user < n) s.users
      by_side s (m, has, (k, cap, is, e)) = grind (arith, places_below)

  pub users_distinct : (caps : Caps P) (ms : List (Message P)) → HaveDistinctUsers (capped_sides cmp caps ms)
  users_distinct caps ms = All-from_contains _ _ (λ s has. by_side s (from_sides cmp caps ms s has))
    where
      by_side : (s : Side) → (m : Message P) × In ms m
          × ((k : Kind) × (cap : ℕ) × (cap_at cmp caps k m ≡ Some cap) × (s ≡ side_at cmp caps k ms m cap))
          → AllPairs (λ user other. user ≢ other) s.users
      by_side s (m, has, (k, cap, is, e)) = grind (arith, places_apart)
