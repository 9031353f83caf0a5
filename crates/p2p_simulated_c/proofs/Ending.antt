-- How a call on an open scheduler ends, from what its state answered and what was kept of that.
use Rattle.p2p_simulated_c.proofs.Common.{◌≡◌, arith, ℕ, List, length, Some, Ok, Err, IfOk, IfErr, inl, inr, sym, ap}
use Rattle.p2p_simulated_c.proofs.Common.{subst, ◌∙◌, IsMade, IsRefused, planned_of, Call, moment_of, Error}
use Rattle.p2p_simulated_c.proofs.Common.{OutOfMemory, NumberTooLarge, Completion, Opened}
use Rattle.std.proofs.Common.{Option, Result, OnErr}
use Rattle.std.proofs.Common.{MatchResult}
use Rattle.fairness.specs.Refusals.ErrorTexts.{refusal_number}
use Rattle.link_scheduler.specs.Calls.State.{IsAdvanced}
use Rattle.fairness.specs.declared.error.Error.TheVariants.{MomentTooLate}
use Rattle.fairness.specs.declared.error.Error.TheVariants.{FlowIdsUsedUp}
use Rattle.p2p_simulated_c.specs.Asked.{OnHandle, at_open, Ended, Advanced}

-- a refusal has a number above zero
numbered : (why : Error) → refusal_number why ≡ 0 → ⊥
numbered OutOfMemory e = omega (arith, e)
numbered NumberTooLarge e = omega (arith, e)
numbered MomentTooLate e = omega (arith, e)
numbered FlowIdsUsedUp e = omega (arith, e)

-- a state that is as it was has the same plan
pub same_plan : {V : Type 0} (answer : Result V Error) (old new : Opened) → OnErr answer (new.state ≡ old.state)
    → OnErr answer (planned_of new.state ≡ planned_of old.state)
same_plan (Ok done) old new same = same
same_plan (Err why) old new same = ap (λ s. planned_of s) same

-- the state answered, and the answer was kept
pub ended : {V : Type 0} (items : V → List (Completion ℕ (List ℕ))) (answer : Result V Error) (call : Call ℕ) {now : ℕ}
    (status count : ℕ) (old between new : Opened)
    → new.state ≡ between.state
    → MatchResult answer (λ done. status ≡ 0) (λ why. status ≡ refusal_number why)
    → MatchResult answer (λ done. new.completed.items ≡ items done) (λ why. new.completed ≡ between.completed)
    → MatchResult answer (λ done. count ≡ length (items done)) (λ why. count ≡ 0)
    → MatchResult answer (λ done. new.last ≡ now) (λ why. new.last ≡ between.last)
    → between.completed ≡ old.completed
    → between.last ≡ old.last
    → moment_of call ≡ Some now
    → IfOk answer (λ done. IsMade old.state call (items done) between.state)
    → IfErr answer (IsRefused old.state call)
    → OnErr answer (planned_of between.state ≡ planned_of old.state)
    → Ended call status count old new
ended items (Ok done) call status count old between new state number kept counted at same last moment made refused
    unchanged =
    inl (
      number,
      record {
        made =
            subst (λ s. IsMade old.state call new.completed.items s) (sym state)
            (subst (λ cs. IsMade old.state call cs between.state) (sym kept) made);
        counted = counted ∙ ap length (sym kept);
        moment = moment ∙ ap Some (sym at);
      },
    )
ended items (Err why) call status count old between new state number kept counted at same last moment made refused
    unchanged =
    inr (
      why,
      number,
      record {
        refused = refused;
        unchanged = ap (λ s. planned_of s) state ∙ unchanged;
        kept = kept ∙ same;
        counted = counted;
        moment = at ∙ last;
      },
    )

pub advanced : {V : Type 0} (items : V → List (Completion ℕ (List ℕ))) (answer : Result V Error) (now status : ℕ)
    (old between new : Opened)
    → new.state ≡ between.state
    → MatchResult answer (λ done. status ≡ 0) (λ why. status ≡ refusal_number why)
    → MatchResult answer (λ done. new.completed.items ≡ items done) (λ why. new.completed ≡ between.completed)
    → IfOk answer (λ done. IsAdvanced old.state now (items done) between.state)
    → Advanced now status old new
advanced items (Ok done) now status old between new state number kept made is_made =
    subst (λ s. IsAdvanced old.state now new.completed.items s) (sym state)
    (subst (λ cs. IsAdvanced old.state now cs between.state) (sym kept) made)
advanced items (Err why) now status old between new state number kept made is_made =
    absurd (numbered why (sym number ∙ is_made))

-- the scheduler was taken from the handle, the call was made on it, and it was put back
pub on_open : {C : Type 0} (does : Opened → Opened → Type 0) (old new : Option Opened) (taken lent left put : Opened)
    → old ≡ Some taken → lent ≡ taken → new ≡ Some put → put ≡ left → does lent left → OnHandle C does old new
on_open does old new taken lent left put was is has same done =
    at_open taken put was has (subst (λ s. does s put) is (subst (λ s. does lent s) (sym same) done))
