use Rattle.fairness.proofs.Numbers.Draining.{left_after_twice}
use Rattle.fairness.proofs.bandwidth.time.draining_splits.Goals as goal

pub returns : goal.returns
returns c = left_after_twice
