-- How what a call does is answered.
use Rattle.link_events.proofs.Common.{◌≡◌, ℕ, Result, Ok, Err, IfOk, IfErr, sym, subst, Ordering, Error, Completed}
use Rattle.link_events.proofs.Common.{Course, Planned}
use Rattle.std.specs.Result.{result_map_both}
use Rattle.link_simulation.specs.Simulation.Calls.{Call, call_advance}
use Rattle.link_simulation.specs.Rule.Events.{Obeys}
use Rattle.link_events.specs.Steps.Answered.{ObeysIn}

-- with so many events or not, it is a course of the call
pub obeys_in : {P : Type 0} (cmp : P → P → Ordering) (p : Planned P) (call : Call P) (events : ℕ)
    (course : Course (Completed P) (Planned P)) → ObeysIn cmp p call events course → Obeys cmp p call course
obeys_in cmp p (call_advance now) events course h = (events, h)
obeys_in cmp p call events course h = h

-- what is done at a call that counts no events is answered with none
pub uncounted_ok : {A : Type 0} (done : Result A Error) (result : Result ℕ Error)
    → result ≡ result_map_both (λ a. 0) (λ e. e) done → (F : ℕ → Type 0) → IfOk done (λ a. F 0) → IfOk result F
uncounted_ok {A} done result is F h = subst (λ r. IfOk r F) (sym is) (counted done h)
  where
    counted : (done : Result A Error) → IfOk done (λ a. F 0) → IfOk (result_map_both {U = ℕ} (λ a. 0) (λ e. e) done) F
    counted (Ok a) h = h
    counted (Err e) h = tt

-- and refused as it is
pub uncounted_err : {A : Type 0} (done : Result A Error) (result : Result ℕ Error)
    → result ≡ result_map_both (λ a. 0) (λ e. e) done → (F : Error → Type 0) → IfErr done F → IfErr result F
uncounted_err {A} done result is F h = subst (λ r. IfErr r F) (sym is) (refused done h)
  where
    refused : (done : Result A Error) → IfErr done F → IfErr (result_map_both {U = ℕ} (λ a. 0) (λ e. e) done) F
    refused (Ok a) h = tt
    refused (Err e) h = h
