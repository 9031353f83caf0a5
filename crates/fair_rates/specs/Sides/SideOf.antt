-- How a side in the code is read.
use Rattle.fairness.specs.Fairness.Fair.{Side}
use Rattle.fair_rates.specs.declared.bandwidth.sides.Side as declared

-- a side in the code
abbrev pub side_of : declared.Side → Side
side_of s = record { cap = s.cap; users = s.users.items }
