-- Calls in place: what is known once they are concluded, and that a scheduler is as it was where they are refused.
use Rattle.link_scheduler.proofs.Common.{◌≡◌, ℕ, List, sym, subst, Ghosts, IsTotalOrder, Error, CapsAlike, PairsAlike}
use Rattle.link_scheduler.proofs.Common.{Completed, Call, IsPlanned, IsOrderly, IsAnswered, planned, State}
use Rattle.std.proofs.Common.{Result, Ok, Err, IfOk, OnOk, OnErr}
use Rattle.std.proofs.Props.{props}
use Rattle.std.specs.Coded.{Coded}
use mathlib.Core.HLevel.{is_prop→PathP}
use Rattle.link_events.specs.declared.ledger.Ledger.{Ledger}
use Rattle.link_events.specs.declared.marks.Kept.{Kept}
use Rattle.link_events.specs.Steps.Marks.{before_of, IsMarked, IsKeptOf, CanBePutBack, IsPutBack}
use Rattle.link_scheduler.proofs.Calls.Answered.{right_after, orderly_after}

-- what follows where an answer is an error
pub on_err_map : {X E A B : Type 0} (r : Result X E) → (A → B) → OnErr r A → OnErr r B
on_err_map (Ok x) f h = tt
on_err_map (Err e) f h = f h

-- schedulers are the same where their ledgers are
pub same_state : {P M : Type 0} {a : _} {b : _} {c : _} → Coded P → (old new : State P M a b c)
    → new.ledger ≡ old.ledger → new ≡ old
same_state {P} {M} {a} coded old new e = λ i. record {
  ledger = e i;
  of = new.of;
  caps =
      is_prop→PathP (λ j. CapsAlike a.cmp (planned a.cmp (e j)).caps (planned a.cmp (e j)).caps) (λ j. hlevel props)
      new.caps old.caps i;
  arrivals =
      is_prop→PathP
      (λ j. PairsAlike a.cmp (planned a.cmp (e j)).last_arrival (planned a.cmp (e j)).last_arrival)
      (λ j. hlevel props) new.arrivals old.arrivals i;
  right =
      is_prop→PathP (λ j. ∥ IsPlanned a.cmp (planned a.cmp (e j)) ∥₁) (λ j. hlevel props) new.right old.right i;
  orderly =
      is_prop→PathP (λ j. ∥ IsOrderly a.cmp (planned a.cmp (e j)) ∥₁) (λ j. hlevel props) new.orderly old.orderly i;
  marked = is_prop→PathP (λ j. IsMarked (e j)) (λ j. hlevel props) new.marked old.marked i;
}

-- what is kept can be put back while the call is made
pub can_be_put_back : {P : Type 0} {a : _} {b : _} {c : _} (was there : Ledger P a b c) (kept : Kept P)
    → IsKeptOf was kept (before_of was) → before_of there ≡ before_of was → CanBePutBack there kept
can_be_put_back was there kept so before = (was, subst (IsKeptOf was kept) (sym before) so)

-- a call that began on what was kept of a ledger, went on there, and was concluded with an answer
module _ {P : Type 0} {a : Ghosts P} {b : _} {c : _} (order : IsTotalOrder a.cmp) (was there new : Ledger P a b c)
    (kept : Kept P) (so : IsKeptOf was kept (before_of was)) (before : before_of there ≡ before_of was) (call : Call P)
    {X : Type 0} (events : X → ℕ) (of : X → List (Completed P)) where
  -- what is known of the answer, and of what is planned then; where it is refused, all is as it was
  pub record IsConcluded (r : Result X Error) : Type 0 where
    pub right : ∥ IsPlanned a.cmp (planned a.cmp new) ∥₁
    pub orderly : ∥ IsOrderly a.cmp (planned a.cmp new) ∥₁
    pub answered : IfOk r (λ x. IsAnswered a.cmp (planned a.cmp was) call (events x) (of x) (planned a.cmp new))
    pub back : OnErr r (new ≡ was)

  pub concluded : (r : Result X Error)
      → IfOk r (λ x. IsAnswered a.cmp (planned a.cmp was) call (events x) (of x) (planned a.cmp there))
      → OnOk r (planned a.cmp new ≡ planned a.cmp there) → OnErr r (IsPutBack there kept new)
      → ∥ IsPlanned a.cmp (planned a.cmp was) ∥₁ → ∥ IsOrderly a.cmp (planned a.cmp was) ∥₁ → IsConcluded r
  concluded (Ok x) went is back right orderly =
      let h : IsAnswered a.cmp (planned a.cmp was) call (events x) (of x) (planned a.cmp new) =
      subst (IsAnswered a.cmp (planned a.cmp was) call (events x) (of x)) (sym is) went in
      record {
        right = right_after a.cmp order (planned a.cmp was) call (events x) (of x) (planned a.cmp new) h right;
        orderly = orderly_after a.cmp order (planned a.cmp was) call (events x) (of x) (planned a.cmp new) h orderly;
        answered = h;
        back = tt;
      }
  concluded (Err e) went is back right orderly =
      let as_was : new ≡ was = back was (subst (IsKeptOf was kept) (sym before) so) in
      record {
        right = subst (λ (l : Ledger P a b c). ∥ IsPlanned a.cmp (planned a.cmp l) ∥₁) (sym as_was) right;
        orderly = subst (λ (l : Ledger P a b c). ∥ IsOrderly a.cmp (planned a.cmp l) ∥₁) (sym as_was) orderly;
        answered = tt;
        back = as_was;
      }
