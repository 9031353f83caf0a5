use Rattle.link_simulation.proofs.Common.{arith, ◌≡◌, ℕ, List, [], ◌∷◌, true, Some, refl, ap, sym, ◌∙◌, subst, AllZip}
use Rattle.link_simulation.proofs.Common.{nat_cmp, Message, World, Completed, goes, new_world, Call, call_enqueue}
use Rattle.link_simulation.proofs.Common.{moment_of, Runs, Answers, no_calls, call_answers, SameCompletion, reply_done}
use Rattle.link_simulation.proofs.Common.{AreInTurn}
use Rattle.link_laws.proofs.model.meanings.replies_that_break_a_promise_are_told.Goals as goal
use Rattle.link_laws.specs.Examples.Rows.{arrives, message}

abbrev first : Call ℕ
first = call_enqueue 0 (message 1 2 1 0)

-- a call of a new world is in turn
turns : (m : Message ℕ) (cs : List (Completed ℕ))
    → AreInTurn nat_cmp (new_world 0) (call_enqueue 0 m ∷ []) (reply_done cs ∷ [])
turns m cs = grind arith

-- before any limit it completes at once
completes : (now : ℕ) (ds : List (Completed ℕ)) (v : World ℕ) → moment_of first ≡ Some now
    → Runs nat_cmp (new_world 0) first now (goes ds v) → arrives (message 1 2 1 0) 0 0 ∷ [] ≡ ds
completes now ds v at runs = grind arith

-- so alone it is not without an answer
answers : {w : World ℕ} {calls : List (Call ℕ)} {css : List (List (Completed ℕ))} → Answers nat_cmp w calls css
    → w ≡ new_world 0 → calls ≡ first ∷ [] → AllZip (AllZip (SameCompletion nat_cmp)) ([] ∷ []) css → ⊥
answers no_calls here is same = cc
answers (call_answers {w = w} {u = u} {call = call} {now = now} {cs = ds} at after runs rest) here is same =
    let it : call ≡ first = cc in
    let done = completes now ds u (ap moment_of (sym it) ∙ at) (subst
    (λ (x : Call ℕ). Runs nat_cmp (new_world 0) x now (goes ds u)) it
    (subst (λ (x : World ℕ). Runs nat_cmp x call now (goes ds u)) here runs)) in
    subst (λ (cs : List (Completed ℕ)). AllZip (SameCompletion nat_cmp) [] cs) (sym done) same.0

pub returns-clause-lost : goal.returns-clause-lost
returns-clause-lost c h =
    let isolated = h (λ p. true) (λ p q e. refl) (refl, tt) (turns (message 1 2 1 0) []) in
    answers isolated.answers refl refl isolated.same

pub returns-clause-others : goal.returns-clause-others
returns-clause-others c isolated = grind arith

pub returns-clause-order : goal.returns-clause-order
returns-clause-order c h =
    let told = h (message 1 2 1 0) (turns (message 1 2 1 0) (arrives (message 1 2 2 0) 0 0 ∷ [])) in
    grind arith
