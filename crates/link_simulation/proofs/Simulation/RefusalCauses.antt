-- When a part of a call is refused, from when a part of that is.
use Rattle.link_simulation.proofs.Common.{◌≡◌, subst, sym, Error, OutOfMemory, NumberTooLarge, MomentTooLate}
use Rattle.link_simulation.proofs.Common.{FlowIdsUsedUp}
use Rattle.std.proofs.Common.{Result, Ok, Err, IfErr}
use Rattle.link_simulation.specs.Simulation.RefusalCauses.{IsRefusedFor}

-- what meets more faults is refused no less
pub refused_more : (faults more : Error → Type 0) → ((e : Error) → faults e → more e) → (e : Error)
    → IsRefusedFor faults e → IsRefusedFor more e
refused_more faults more f OutOfMemory h = tt
refused_more faults more f NumberTooLarge h = h
refused_more faults more f MomentTooLate h = f MomentTooLate h
refused_more faults more f FlowIdsUsedUp h = f FlowIdsUsedUp h

-- memory may run out at any time
pub refused_memory : (faults : Error → Type 0) (e : Error) → e ≡ OutOfMemory → IsRefusedFor faults e
refused_memory faults e is = subst (IsRefusedFor faults) (sym is) tt

pub memory_refuses : {X : Type 0} (faults : Error → Type 0) (result : Result X Error)
    → IfErr result (λ e. e ≡ OutOfMemory) → IfErr result (IsRefusedFor faults)
memory_refuses faults (Ok x) is = tt
memory_refuses faults (Err e) is = refused_memory faults e is
