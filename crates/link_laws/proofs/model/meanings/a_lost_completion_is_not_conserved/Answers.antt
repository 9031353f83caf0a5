use Rattle.link_simulation.proofs.Common.{◌≡◌, ℕ, List, [], ◌∷◌, refl, AllZip, nat_cmp, Completed, Course, goes}
use Rattle.link_simulation.proofs.Common.{Enqueues, at_once, no_launch, launches, Planned, new_planned, SameCompletion}
use Rattle.link_laws.proofs.model.meanings.a_lost_completion_is_not_conserved.Goals as goal
use Rattle.link_laws.specs.Examples.Rows.{arrives, message}

-- before any limit the message completes
completes : {course : Course (Completed ℕ) (Planned ℕ)} → Enqueues nat_cmp 0 (message 1 2 1 0) (new_planned 0) course
    → (ds : List (Completed ℕ)) (q : Planned ℕ) → course ≡ goes ds q → arrives (message 1 2 1 0) 0 0 ∷ [] ≡ ds
completes (at_once free) ds q is = cc
completes (no_launch limited launch) ds q is = cc
completes (launches limited launch finishes) ds q is = cc

told : (cs ds : List (Completed ℕ)) → arrives (message 1 2 1 0) 0 0 ∷ [] ≡ ds → AllZip (SameCompletion nat_cmp) cs ds
    → AllZip (SameCompletion nat_cmp) cs (arrives (message 1 2 1 0) 0 0 ∷ [])
told cs ds is same = rw is same

pub returns-clause-lost : goal.returns-clause-lost
returns-clause-lost c h = let (ds, q, obeys, same, rest) = h.led in told [] ds (completes obeys ds q refl) same

pub returns-clause-arrival : goal.returns-clause-arrival
returns-clause-arrival c h =
    let (ds, q, obeys, same, rest) = h.led in
    let one = told (arrives (message 1 2 1 0) 0 7 ∷ []) ds (completes obeys ds q refl) same in
    let clash = one.0.deliver_at in
    cc
