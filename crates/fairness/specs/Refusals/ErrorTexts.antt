-- What is said of a refusal.
use Rattle.std.specs.Prelude.{ℕ, List, codes}
use Rattle.fairness.specs.declared.error.Error.{Error}
use Rattle.fairness.specs.declared.error.Error.TheVariants.{OutOfMemory, NumberTooLarge, MomentTooLate, FlowIdsUsedUp}

-- its number in what a script prints
abbrev pub refusal_number : Error → ℕ
refusal_number OutOfMemory = 1
refusal_number NumberTooLarge = 2
refusal_number MomentTooLate = 3
refusal_number FlowIdsUsedUp = 4

-- its text, without a byte at its end
abbrev pub refusal_text : Error → List ℕ
refusal_text OutOfMemory = codes "out of memory"
refusal_text NumberTooLarge = codes "number too large"
refusal_text MomentTooLate = codes "moment too late"
refusal_text FlowIdsUsedUp = codes "flow ids used up"
