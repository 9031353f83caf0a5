use Rattle.fair_routes.proofs.Common.{◌≤◌, ℕ, List, length, AreUsers, vec_len}
use Rattle.fair_routes.proofs.Network.Sides.{AreMade}
use Rattle.fair_routes.proofs.routes.sides.capped_sides.Given as goal

abbrev pub invariant-loop-flows : goal.invariant-loop-flows
invariant-loop-flows l = record {
  few : vec_len l.users ≤ length l.caps;
  made : (routes : List (List ℕ)) → AreUsers (length l.caps) routes l.fn.users.items
      → AreMade (vec_len l.users) l.caps routes l.users.items l.sides.items;
}

abbrev pub decreases-loop-flows : goal.decreases-loop-flows
decreases-loop-flows l = vec_len l.users
