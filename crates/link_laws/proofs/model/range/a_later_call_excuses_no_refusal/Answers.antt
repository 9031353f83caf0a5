use Rattle.link_simulation.proofs.Common.{◌≡◌, ℕ, [], ◌∷◌, arith, OutOfMemory, MomentTooLate, call_advance}
use Rattle.link_simulation.specs.Rule.Range.{AreInRange}
use Rattle.link_laws.proofs.model.range.a_later_call_excuses_no_refusal.Goals as goal

-- one advance is in the range, and so are two
one : AreInRange {P = ℕ} (call_advance 0 ∷ [])
one = grind arith

two : AreInRange {P = ℕ} (call_advance 0 ∷ call_advance 0 ∷ [])
two = grind arith

pub returns-clause-after_done : goal.returns-clause-after_done
returns-clause-after_done c refuses = let memory : MomentTooLate ≡ OutOfMemory = refuses.0 two in cc

pub returns-clause-after_refusal : goal.returns-clause-after_refusal
returns-clause-after_refusal c refuses = let memory : MomentTooLate ≡ OutOfMemory = refuses.1.0 one in cc

pub returns-clause-later : goal.returns-clause-later
returns-clause-later c refuses = let memory : MomentTooLate ≡ OutOfMemory = refuses.0 one in cc
