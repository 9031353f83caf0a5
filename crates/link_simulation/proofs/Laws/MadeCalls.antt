-- Replies that agree with the simulation, to calls in turn, are what the calls that were made answer there.
use Rattle.link_simulation.proofs.Common.{common_steps, ◌≡◌, ℕ, ◌≤◌, List, [], ◌∷◌, Some, zero, suc, refl, ◌∙◌, arith}
use Rattle.link_simulation.proofs.Common.{AllZip, Ordering, IsTotalOrder, World, new_world, Completed, goes, IsQuiet}
use Rattle.link_simulation.proofs.Common.{Call, call_advance, call_next, moment_of, Runs, IsBeforeNext, IsInTurn, Reply}
use Rattle.link_simulation.proofs.Common.{reply_done, reply_next, reply_refused, SameCompletion, Agrees, made}
use Rattle.link_simulation.proofs.Common.{completions_in, Answers, no_calls, call_answers, AreInTurn}
use Rattle.std.specs.Prelude.{take}
use Rattle.link_simulation.specs.Laws.Isolation.{AnswersInTurn, no_calls_in_turn, answers_in_turn}
use Rattle.link_simulation.specs.Laws.Replies.{AreAdvancedFirst}
use Rattle.link_simulation.proofs.Simulation.QuietInstants.{next_is_later, call_ends_quiet}
use Rattle.link_simulation.proofs.Rule.Limit.{new_stands}
use Rattle.link_simulation.proofs.Rule.Stepwise.{agrees_next, agrees_refused, agrees_done, IsMade}

module _ {P : Type 0} (cmp : P → P → Ordering) (order : IsTotalOrder cmp) where
  pub turn_later : (w : World P) (call : Call P) (now : ℕ) → moment_of call ≡ Some now → IsInTurn cmp w call
      → w.moment ≤ now
  turn_later w (call_advance t) now e h = grind arith
  turn_later w call_next now e h = cc
  turn_later w call now e h = grind arith

  pub any_turn : {w : World P} {calls : List (Call P)} {css : List (List (Completed P))} → AnswersInTurn cmp w calls css
      → Answers cmp w calls css
  any_turn no_calls_in_turn = no_calls
  any_turn {w = w} (answers_in_turn {call = call} {now = now} at turn runs rest) =
      call_answers at (turn_later w call now at turn) runs (any_turn rest)

  abbrev pub Bridged : World P → List (Call P) → List (Reply P) → Type 0
  Bridged w calls replies =
      (css : List (List (Completed P))) × AnswersInTurn cmp w (made calls replies) css
      × AllZip (AllZip (SameCompletion cmp)) (completions_in replies) css

  -- and so it is up to any call
  pub made_in_turn : (n : ℕ) (calls : List (Call P)) (replies : List (Reply P)) (w : World P)
      → Agrees cmp w calls replies
      → AreInTurn cmp w (take n calls) (take n replies) → Bridged w (take n calls) (take n replies)
  made_in_turn zero calls replies w agrees turns = ([], no_calls_in_turn, tt)
  made_in_turn (suc n) [] [] w agrees turns = ([], no_calls_in_turn, tt)
  made_in_turn (suc n) [] (reply ∷ replies) w agrees turns = absurd agrees
  made_in_turn (suc n) (call ∷ calls) [] w agrees turns = absurd agrees
  made_in_turn (suc n) (call ∷ calls) (reply_next next ∷ replies) w agrees turns =
      made_in_turn n calls replies w (agrees_next cmp w calls replies call next agrees) turns.1
  made_in_turn (suc n) (call ∷ calls) (reply_refused why ∷ replies) w agrees turns =
      made_in_turn n calls replies w (agrees_refused cmp w calls replies call why agrees turns.0) turns.1
  made_in_turn (suc n) (call ∷ calls) (reply_done cs ∷ replies) w agrees turns =
      let one : IsMade cmp w calls replies call cs = agrees_done cmp w calls replies call cs agrees turns.0 in
      let rest : Bridged one.after (take n calls) (take n replies)
      = made_in_turn n calls replies one.after one.rest (turns.1 one.now one.answers one.after one.moment one.runs) in
      (one.answers ∷ rest.0, answers_in_turn one.moment turns.0 one.runs rest.1, (one.same, rest.2))

  -- ---- calls that come after time is advanced are in turn

  pub run_ends : (w v : World P) (call : Call P) (now : ℕ) (cs : List (Completed P)) → IsQuiet cmp w.moment w
      → moment_of call ≡ Some now → w.moment ≤ now → Runs cmp w call now (goes cs v)
      → (v.moment ≡ now) × IsQuiet cmp v.moment v
  run_ends w v call now cs quiet at le runs =
      grind (arith, common_steps, (call_ends_quiet cmp order w call now (goes cs v) quiet at le runs))

  pub before_next : (w : World P) (now : ℕ) → w.moment ≡ now → IsBeforeNext cmp now w
  before_next w now same = grind (arith, next_is_later)

  by_reply : (w : World P) (call : Call P) (calls : List (Call P)) (reply : Reply P) (replies : List (Reply P))
      → IsInTurn cmp w call → AreInTurn cmp w calls replies
      → ((now : ℕ) (cs : List (Completed P)) (v : World P) → moment_of call ≡ Some now → Runs cmp w call now (goes cs v)
      → AreInTurn cmp v calls replies) → AreInTurn cmp w (call ∷ calls) (reply ∷ replies)
  by_reply w call calls (reply_done cs) replies turn stays goes_on = (turn, goes_on)
  by_reply w call calls (reply_next next) replies turn stays goes_on = (turn, stays)
  by_reply w call calls (reply_refused why) replies turn stays goes_on = (turn, stays)

  -- a call at the world's own moment
  at_the_moment : (w : World P) (call : Call P) (calls : List (Call P)) (reply : Reply P) (replies : List (Reply P))
      (at : ℕ) → moment_of call ≡ Some at → w.moment ≡ at → IsQuiet cmp w.moment w → IsInTurn cmp w call
      → ((v : World P) → v.moment ≡ at → IsQuiet cmp v.moment v → AreInTurn cmp v calls replies)
      → AreInTurn cmp w (call ∷ calls) (reply ∷ replies)
  at_the_moment w call calls reply replies at is same quiet turn ih =
      by_reply w call calls reply replies turn (ih w same quiet) (λ now cs v there runs. let equal : now ≡ at = cc in
      let ends : (v.moment ≡ now) × IsQuiet cmp v.moment v = run_ends w v call now cs quiet there (omega arith) runs in
      ih v (ends.0 ∙ equal) ends.1)

  advanced_in_turn : (calls : List (Call P)) (replies : List (Reply P)) (w : World P) (at : ℕ) → w.moment ≡ at
      → IsQuiet cmp w.moment w → AreAdvancedFirst at calls replies → AreInTurn cmp w calls replies
  advanced_in_turn [] replies w at same quiet first = tt
  advanced_in_turn (call ∷ calls) [] w at same quiet first = tt
  advanced_in_turn (call_advance now ∷ calls) (reply_done cs ∷ replies) w at same quiet first = (
    omega arith,
    λ t ds v there runs.
        let equal : t ≡ now = cc in
        let ends = run_ends w v (call_advance now) t ds quiet there (omega arith) runs in
        advanced_in_turn calls replies v now (ends.0 ∙ equal) ends.1 first.1,
  )
  advanced_in_turn (call_advance now ∷ calls) (reply_next next ∷ replies) w at same quiet first =
      (omega arith, advanced_in_turn calls replies w at same quiet first.1)
  advanced_in_turn (call_advance now ∷ calls) (reply_refused why ∷ replies) w at same quiet first =
      (omega arith, advanced_in_turn calls replies w at same quiet first.1)
  advanced_in_turn (call_next ∷ calls) (reply ∷ replies) w at same quiet first =
      grind (arith, (advanced_in_turn calls replies w at same quiet first))
  advanced_in_turn (call ∷ calls) (reply ∷ replies) w at same quiet first =
      grind (arith, at_the_moment, before_next, (advanced_in_turn calls replies))

  pub new_in_turn : (calls : List (Call P)) (replies : List (Reply P)) → AreAdvancedFirst 0 calls replies
      → AreInTurn cmp (new_world 0) calls replies
  new_in_turn calls replies first = advanced_in_turn calls replies _ 0 refl (new_stands cmp order 0).quiet first
