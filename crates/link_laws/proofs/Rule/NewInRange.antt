-- An advance of a new planned world is in the range.
use Rattle.link_simulation.proofs.Common.{ℕ, arith, call_advance, new_planned}
use Rattle.link_simulation.specs.Rule.Range.{IsCallInRange}

pub advance_in_range : IsCallInRange (new_planned {P = ℕ} 0) (call_advance 0)
advance_in_range = grind arith
