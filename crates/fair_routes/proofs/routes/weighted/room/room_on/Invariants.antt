use Rattle.fair_routes.proofs.Common.{◌≡◌, ◌*◌, ◌-◌, sum_by, take, at_level, frozen_in, rising_weight, weight_at}
use Rattle.fair_routes.proofs.routes.weighted.room.room_on.Given as goal

abbrev pub invariant-loop-user : goal.invariant-loop-user
invariant-loop-user l = record {
  slack : l.slack ≡ l.scale * l.side.cap
      - sum_by (λ user. at_level (frozen_in l.parts) 0 user * weight_at l.weights user) (take l.user-index l.user-items);
  weight : l.weight ≡ rising_weight l.weights (frozen_in l.parts) (take l.user-index l.user-items);
}
