-- What replies that agree with the simulation, or that follow the event rule, say of the first call.
use Rattle.link_simulation.proofs.Common.{arith, ◌≡◌, ℕ, List, ◌∷◌, Option, Some, AllZip, Ordering, Error, World}
use Rattle.link_simulation.proofs.Common.{Completed, goes, Call, call_next, moment_of, Runs, IsInTurn, Reply}
use Rattle.link_simulation.proofs.Common.{reply_done, reply_next, reply_refused, SameCompletion, Agrees, Planned, Obeys}
use Rattle.link_simulation.proofs.Common.{MayBeRefused, Obeyed}

module _ {P : Type 0} (cmp : P → P → Ordering) where
  -- ---- in the simulation

  pub agrees_next : (w : World P) (calls : List (Call P)) (replies : List (Reply P)) (call : Call P) (next : Option ℕ)
      → Agrees cmp w (call ∷ calls) (reply_next next ∷ replies) → Agrees cmp w calls replies
  agrees_next w calls replies call_next next agrees = agrees.1
  agrees_next w calls replies call next agrees = absurd agrees

  pub agrees_refused : (w : World P) (calls : List (Call P)) (replies : List (Reply P)) (call : Call P) (why : Error)
      → Agrees cmp w (call ∷ calls) (reply_refused why ∷ replies) → IsInTurn cmp w call → Agrees cmp w calls replies
  agrees_refused w calls replies call_next why agrees turn = absurd agrees
  agrees_refused w calls replies call why agrees turn = (agrees turn).1

  -- a call that was made: its run, and the rest
  pub record IsMade (w : World P) (calls : List (Call P)) (replies : List (Reply P)) (call : Call P)
      (completions : List (Completed P)) : Type 0 where
    pub now : ℕ
    pub answers : List (Completed P)
    pub after : World P
    pub moment : moment_of call ≡ Some now
    pub runs : Runs cmp w call now (goes answers after)
    pub same : AllZip (SameCompletion cmp) completions answers
    pub rest : Agrees cmp after calls replies

  pub agrees_done : (w : World P) (calls : List (Call P)) (replies : List (Reply P)) (call : Call P)
      (completions : List (Completed P))
      → Agrees cmp w (call ∷ calls) (reply_done completions ∷ replies) → IsInTurn cmp w call
      → IsMade w calls replies call completions
  agrees_done w calls replies call_next completions agrees turn = absurd agrees
  agrees_done w calls replies call completions agrees turn = grind arith

  -- ---- by the event rule

  pub obeyed_next : (p : Planned P) (calls : List (Call P)) (replies : List (Reply P)) (call : Call P) (next : Option ℕ)
      → Obeyed cmp p (call ∷ calls) (reply_next next ∷ replies) → Obeyed cmp p calls replies
  obeyed_next p calls replies call_next next obeyed = obeyed.1
  obeyed_next p calls replies call next obeyed = absurd obeyed

  pub obeyed_refused : (p : Planned P) (calls : List (Call P)) (replies : List (Reply P)) (call : Call P) (why : Error)
      → Obeyed cmp p (call ∷ calls) (reply_refused why ∷ replies)
      → MayBeRefused cmp p call why × Obeyed cmp p calls replies
  obeyed_refused p calls replies call_next why obeyed = absurd obeyed
  obeyed_refused p calls replies call why obeyed = obeyed

  pub obeyed_done : (p : Planned P) (calls : List (Call P)) (replies : List (Reply P)) (call : Call P)
      (completions : List (Completed P)) → Obeyed cmp p (call ∷ calls) (reply_done completions ∷ replies)
      → (ds : List (Completed P)) × (q : Planned P) × Obeys cmp p call (goes ds q)
      × AllZip (SameCompletion cmp) completions ds × Obeyed cmp q calls replies
  obeyed_done p calls replies call_next completions obeyed = absurd obeyed
  obeyed_done p calls replies call completions obeyed = obeyed
