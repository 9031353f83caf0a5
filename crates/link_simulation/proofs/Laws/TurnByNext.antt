-- Calls before the planned next event, and those that go by what `next` answers, come in their turn.
use Rattle.link_simulation.proofs.Common.{◌≡◌, ℕ, ◌+◌, ◌<◌, ◌≤◌, List, [], ◌∷◌, Option, Some, refl, sym, subst, arith}
use Rattle.link_simulation.proofs.Common.{ap, append_assoc, ◌∙◌, IfSome, Ordering, IsTotalOrder, Course, preceded}
use Rattle.link_simulation.proofs.Common.{and_then, meets, Message, enqueue, enqueue_each, World, Completed, goes}
use Rattle.link_simulation.proofs.Common.{new_world, IsQuiet, NextIs, IsSound, Call, call_enqueue, call_advance}
use Rattle.link_simulation.proofs.Common.{call_enqueue_all, call_next, moment_of, Runs, IsInTurn, IsBeforeNext, Reply}
use Rattle.link_simulation.proofs.Common.{reply_done, reply_next, reply_refused, Agrees, Planned, next_event, StandsFor}
use Rattle.link_simulation.proofs.Common.{IsCalled, IsRun, AreInTurn}
use Rattle.link_simulation.specs.Laws.Replies.{IsBetween, GoByNext}
use Rattle.link_simulation.proofs.Rule.Limit.{new_stands}
use Rattle.link_simulation.proofs.Laws.MadeCalls.{run_ends, turn_later, before_next}
use Rattle.link_simulation.proofs.Rule.Obeys.{acts_at_once}
use Rattle.link_simulation.proofs.Rule.NextEvent.{next_is_planned}
use Rattle.link_simulation.proofs.Simulation.OneNext.{next_is_one}
use Rattle.link_simulation.proofs.Simulation.OneRun.{runs_are_one}
use Rattle.link_simulation.proofs.Simulation.QuietInstants.{next_is_later}
use Rattle.link_simulation.proofs.Rule.Simulated.{sound_of_stands}
use Rattle.link_simulation.proofs.Simulation.Sound.{call_keeps_sound, new_world_sound}
use Rattle.link_simulation.proofs.Rule.Stepwise.{agrees_next, agrees_refused, agrees_done, IsMade}

module _ {P : Type 0} (cmp : P → P → Ordering) (order : IsTotalOrder cmp) where
  -- ---- one call

  -- a call no earlier than the world, and before its next event
  in_turn : (w : World P) (call : Call P) (now : ℕ) → moment_of call ≡ Some now → w.moment ≤ now
      → IsBeforeNext cmp now w → IsInTurn cmp w call
  in_turn w (call_advance t) now is le before = let same : now ≡ t = cc in omega arith
  in_turn w call_next now is le before = tt
  in_turn w call now is le before = grind arith

  pub turn_by_next : (p : Planned P) (w : World P) (call : Call P) (now : ℕ) → StandsFor cmp p w
      → moment_of call ≡ Some now → w.moment ≤ now → IfSome (next_event p) (λ t. now < t) → IsInTurn cmp w call
  turn_by_next p w call now stands is le before = in_turn w call now is le
      (λ next there. subst (λ (o : Option ℕ). IfSome o (λ t. now < t)) (next_is_one cmp order w _ next
      (sound_of_stands cmp order p w stands).positive (next_is_planned cmp order p w stands) there) before)

  pub called_at_once : (w : World P) (q : Planned P) (call other : Call P) (now : ℕ) (cs : List (Completed P))
      → moment_of other ≡ Some now → (run : IsRun cmp w call now cs q) → IsCalled cmp q other now run.after
  called_at_once w q call other now cs is run = grind (arith, turn_by_next)

  -- ---- a list of messages

  -- after the first message the rest is in turn, since the next event is later
  pub rest_in_turn : (w v : World P) (now : ℕ) (m : Message P) (ms : List (Message P)) (cs : List (Completed P))
      → IsQuiet cmp w.moment w → IsInTurn cmp w (call_enqueue_all now (m ∷ ms))
      → Runs cmp w (call_enqueue now m) now (goes cs v) → IsInTurn cmp v (call_enqueue_all now ms)
  rest_in_turn w v now m ms cs quiet turn runs =
      let ends = run_ends cmp order w v (call_enqueue now m) now cs quiet refl turn.0 runs in
      let at : v.moment ≡ now = ends.0 in
      (omega arith, before_next cmp order v now at)

  then_then : (c : Course (Completed P) (World P)) (f g : World P → Course (Completed P) (World P))
      → and_then c (λ v. and_then (f v) g) ≡ and_then (and_then c f) g
  then_then (goes cs v) f g = grind (arith, append_assoc)
  then_then (meets fault) f g = refl

  -- the first message and then the rest are the list
  pub runs_as_one : (w v : World P) (now : ℕ) (m : Message P) (ms : List (Message P)) (cs : List (Completed P))
      (course : Course (Completed P) (World P)) → Runs cmp w (call_enqueue now m) now (goes cs v) → v.moment ≡ now
      → Runs cmp v (call_enqueue_all now ms) now course
      → Runs cmp w (call_enqueue_all now (m ∷ ms)) now (preceded cs course)
  runs_as_one w v now m ms cs course first at rest = record {
    ticked = first.ticked;
    ticks = first.ticks;
    acts =
        ap (preceded cs) (acts_at_once cmp order v (call_enqueue_all now ms) now course at rest)
        ∙ ap (λ (c : Course (Completed P) (World P)). and_then c (λ u. enqueue_each cmp now u ms)) first.acts
        ∙ sym (then_then first.ticked (λ u. enqueue cmp now u m) (λ u. enqueue_each cmp now u ms));
  }

  -- ---- a list of calls

  -- what comes before that moment comes before the next event
  Known : Option ℕ → World P → Type 0
  Known before w = (now : ℕ) → IfSome before (λ t. now < t) → IsBeforeNext cmp now w

  known_at_once : (w : World P) (at : ℕ) → w.moment ≡ at → Known (Some (at + 1)) w
  unfolding Known
  known_at_once w at same now below next is = grind (arith, next_is_later)

  known_by_next : (w : World P) (next : Option ℕ) → IsSound cmp w → NextIs cmp w next → Known next w
  unfolding Known
  known_by_next w next sound is now below other there = grind (arith, next_is_one)

  turn_between : (w : World P) (call : Call P) (from : ℕ) (before : Option ℕ) → w.moment ≡ from → Known before w
      → IsBetween from before call → IsInTurn cmp w call
  unfolding Known
  turn_between w (call_advance now) from before same known between = omega arith
  turn_between w call_next from before same known between = tt
  turn_between w call from before same known between = (omega arith, known _ between.1)

  asked : (w : World P) (calls : List (Call P)) (replies : List (Reply P)) (call : Call P) (next : Option ℕ)
      → Agrees cmp w (call ∷ calls) (reply_next next ∷ replies) → IsInTurn cmp w call × NextIs cmp w next
  asked w calls replies call_next next agrees = (tt, agrees.0)
  asked w calls replies call next agrees = absurd agrees

  Follow : List (Call P) → List (Reply P) → Type 0
  Follow calls replies =
      (w : World P) (from : ℕ) (before : Option ℕ) → w.moment ≡ from → IsSound cmp w → IsQuiet cmp w.moment w
      → Known before w → GoByNext from before calls replies → Agrees cmp w calls replies → AreInTurn cmp w calls replies

  by_next_in_turn : (calls : List (Call P)) (replies : List (Reply P)) → Follow calls replies
  unfolding Follow
  by_next_in_turn [] replies w from before same sound quiet known go agrees = tt
  by_next_in_turn (call ∷ calls) [] w from before same sound quiet known go agrees = tt
  by_next_in_turn (call ∷ calls) (reply_next next ∷ replies) w from before same sound quiet known go agrees =
      grind (arith, asked, known_by_next, agrees_next, (by_next_in_turn calls replies w from next same sound quiet))
  by_next_in_turn (call ∷ calls) (reply_refused why ∷ replies) w from before same sound quiet known go agrees =
      grind (arith, turn_between, agrees_refused, (by_next_in_turn calls replies w from before same sound quiet known))
  by_next_in_turn (call ∷ calls) (reply_done cs ∷ replies) w from before same sound quiet known go agrees =
      (turn, after (by_next_in_turn calls replies))
    where
      turn : IsInTurn cmp w call
      turn = turn_between w call from before same known go.0

      after : Follow calls replies → (now : ℕ) (ds : List (Completed P)) (v : World P) → moment_of call ≡ Some now
          → Runs cmp w call now (goes ds v) → AreInTurn cmp v calls replies
      after ih now ds v is runs =
          let one : IsMade cmp w calls replies call cs = agrees_done cmp w calls replies call cs agrees turn in
          let at : now ≡ one.now = cc in
          let both = runs_are_one cmp order w call now (goes ds v) (goes one.answers one.after) sound runs
          (subst (λ (t : ℕ). Runs cmp w call t (goes one.answers one.after)) (sym at) one.runs) in
          let there : one.after ≡ v = cc in
          let ends = run_ends cmp order w v call now ds quiet is (turn_later cmp order w call now is turn) runs in
          let still : IsSound cmp v = call_keeps_sound cmp order w call now (goes ds v) sound runs in
          ih v now (Some (now + 1)) ends.0 still ends.1 (known_at_once v now ends.0)
          (subst (λ (o : Option ℕ). IfSome o (λ t. GoByNext t (Some (t + 1)) calls replies)) is go.1)
          (subst (λ (u : World P). Agrees cmp u calls replies) there one.rest)

  pub new_by_next : (calls : List (Call P)) (replies : List (Reply P)) → Agrees cmp (new_world 0) calls replies
      → GoByNext 0 (Some 1) calls replies → AreInTurn cmp (new_world 0) calls replies
  unfolding Follow
  new_by_next calls replies agrees go =
      by_next_in_turn calls replies (new_world 0) 0 (Some 1) refl (new_world_sound cmp order 0)
      (new_stands cmp order 0).quiet (known_at_once (new_world 0) 0 refl) go agrees
