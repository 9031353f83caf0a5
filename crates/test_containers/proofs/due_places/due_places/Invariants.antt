use Rattle.std.proofs.Common.{ℕ, ◌<◌, ◌≤◌, ◌-◌}
use Rattle.std.specs.List.{All, AllPairs, Contains}
use Rattle.least_moment.specs.Moments.{IsDue}
use Rattle.test_containers.proofs.due_places.due_places.Given as goal

abbrev pub invariant-loop-from : goal.invariant-loop-from
invariant-loop-from l = record {
  within : l.from ≤ l.len;
  all : (at : ℕ) → at < l.from → IsDue l.moments l.time at → Contains l.places.items at;
  only : All (IsDue l.moments l.time) l.places.items;
  below : All (λ at. at < l.from) l.places.items;
  order : AllPairs (λ one next. one < next) l.places.items;
}

abbrev pub decreases-loop-from : goal.decreases-loop-from
decreases-loop-from l = l.len - l.from
