use Rattle.fair_routes.proofs.Common.{map, take, side_of, frozen_in, AreAllHeld, HasLeastRoom, MatchOption}
use Rattle.fair_routes.proofs.routes.weighted.room.least_room.Given as goal

abbrev pub invariant-loop-place : goal.invariant-loop-place
invariant-loop-place l = MatchOption l.least
    (AreAllHeld l.weights (frozen_in l.parts) (map side_of (take l.place l.sides)))
    (HasLeastRoom l.weights l.scale (frozen_in l.parts) (map side_of (take l.place l.sides)))
