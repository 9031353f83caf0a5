-- When a call, or a part of one, may be refused.
use Rattle.std.specs.Prelude.{⊤}
use Rattle.fairness.specs.declared.error.Error.{Error}
use Rattle.fairness.specs.declared.error.Error.TheVariants.{OutOfMemory, NumberTooLarge, MomentTooLate, FlowIdsUsedUp}

-- for memory at any time, for a number never, and else for a fault that it meets
abbrev pub IsRefusedFor : (Error → Type 0) → Error → Type 0
IsRefusedFor meets_fault OutOfMemory = ⊤
IsRefusedFor meets_fault NumberTooLarge = ⊥
IsRefusedFor meets_fault MomentTooLate = meets_fault MomentTooLate
IsRefusedFor meets_fault FlowIdsUsedUp = meets_fault FlowIdsUsedUp
