-- Calls of a script, and the scheduler.
use Rattle.link_scripts.proofs.Common.{◌≡◌, ◌≢◌, ℕ, List, refl, sym, subst, Error, OutOfMemory, Refuses, MayRefuseCall}
use Rattle.link_scripts.proofs.Common.{Planned, Call, call_enqueue, call_enqueue_all}
use Rattle.std.specs.declared.cmp.Ordering.{Ordering}
use Rattle.link_scheduler.specs.declared.transmitter.State.{State}
use Rattle.link_simulation.specs.Simulation.Calls.{call_limit, call_limit_link, call_advance}
use Rattle.link_simulation.specs.Simulation.Calls.{call_next}

refuses_for_memory : (cmp : ℕ → ℕ → Ordering) (p : Planned ℕ) (call : Call ℕ) (why : Error) → why ≡ OutOfMemory
    → Refuses cmp p call why
refuses_for_memory cmp p call why is =
    subst (Refuses cmp p call) (sym is)
    (record { by_rule = tt; simulated = record { cause = tt; in_range = λ own. refl } })

-- any call but that for the next event may be refused for memory
pub may_refuse_for_memory : {a : _} {b : _} {c : _} (s : State ℕ (List ℕ) a b c) (call : Call ℕ) (why : Error)
    → (why ≡ OutOfMemory) × (call ≢ call_next) → MayRefuseCall s call why
may_refuse_for_memory s call_next why h = absurd (h.1 refl)
may_refuse_for_memory s (call_limit now peer egress ingress) why h = refuses_for_memory _ _ _ why h.0
may_refuse_for_memory s (call_limit_link now origin recipient cap) why h = refuses_for_memory _ _ _ why h.0
may_refuse_for_memory s (call_enqueue now m) why h = refuses_for_memory _ _ _ why h.0
may_refuse_for_memory s (call_enqueue_all now ms) why h = refuses_for_memory _ _ _ why h.0
may_refuse_for_memory s (call_advance now) why h = refuses_for_memory _ _ _ why h.0
