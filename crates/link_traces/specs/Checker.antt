-- What is kept of a trace on its way.
use Rattle.std.specs.Prelude.{◌≡◌, ℕ, List, [], ◌∷◌, ◌++◌, Option, None}
use Rattle.std.specs.Io.KnownBytes.{Consumes}
use Rattle.link_traces.specs.declared.linkcheck.checker.Checker.{Checker}
use Rattle.link_traces.specs.declared.linkcheck.Turns.TheVariants as turns
use Rattle.link_traces.specs.Progress.{IsTold}
use Rattle.link_traces.specs.Trace.{IsAfterTolerance}

-- these bytes were taken so far, and agree
pub record IsUnderway (text : List ℕ) (c : Checker) : Type 0 where
  pub trace : List ℕ
  pub after : IsAfterTolerance text c.tolerance trace
  pub told : IsTold trace c.progress
  -- only the first line may set a tolerance
  pub first : c.lines ≡ 0 → (text ≡ []) × (c.tolerance ≡ None)
  -- where all calls have to be in turn, they are
  pub in_turn : c.turns ≡ turns.InTurn → c.progress.out_of_turn ≡ None

-- a line of calls and answers is taken
abbrev pub GoesOn : Checker → List ℕ → Checker → Type 0
GoesOn old line new =
    ((said : List ℕ) → IsTold said old.progress → IsTold (said ++ (line ++ 10 ∷ [])) new.progress)
    × (new.turns ≡ turns.InTurn → old.progress.out_of_turn ≡ None → new.progress.out_of_turn ≡ None)

-- what is kept beside the calls and answers is the same
pub record IsSameTrace (old new : Checker) : Type 0 where
  pub turns : new.turns ≡ old.turns
  pub lines : new.lines ≡ old.lines
  pub tolerance : new.tolerance ≡ old.tolerance

-- of the bytes that are left some were taken, and what agreed before them agrees with them
pub record IsTakenOf (old new : Option (List ℕ)) (before after : Checker) : Type 0 where
  pub text : List ℕ
  pub taken : Consumes old new text
  pub goes_on : (front : List ℕ) → IsUnderway front before → IsUnderway (front ++ text) after
  pub turns : after.turns ≡ before.turns
