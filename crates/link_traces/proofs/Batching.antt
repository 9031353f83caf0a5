-- Messages that are sent at once.
use Rattle.link_traces.proofs.Common.{◌≡◌, ℕ, ◌+◌, ◌<◌, List, [], ◌∷◌, ◌++◌, length, map, drop, Option, None, Some, All}
use Rattle.link_traces.proofs.Common.{subst, refl, sym, ap, ◌∙◌, append_assoc, append-nil, arith, IfSome, nat_cmp_total}
use Rattle.link_traces.proofs.Common.{flat_map-append, map-append, length-append, All-append, All-cons, All-nil}
use Rattle.link_traces.proofs.Common.{flat_map, nat_cmp, Outgoing, one_more, reply_of, planned_of, Makes, reply_text}
use Rattle.link_traces.proofs.Common.{world_call, zeroed_sends, AnswersEach, IsCallOfScriptInRange, Planned}
use Rattle.link_traces.proofs.Common.{new_planned, Obeyed, StandsFor, Call, call_enqueue, IsInTurn, Reply, reply_done}
use Rattle.link_traces.proofs.Common.{World, Completed, new_world, Checker, Progress, batch_calls, batch_lines, IsFront}
use Rattle.link_traces.proofs.Common.{IsUnderway, due, IsTold, call_line, done_in, transcript_of, AgreesInTurn}
use Rattle.link_traces.proofs.Common.{IsSimulatedReply}
use Rattle.std.proofs.Common.{MatchOption}
use Rattle.std.proofs.lemmas.List.{length-map}
use Rattle.link_pairs.specs.Pairs.Messages.{completed_of}
use Rattle.link_scheduler.specs.declared.call.Call as script
use Rattle.link_scheduler.specs.declared.call.Reply as reply_code
use Rattle.link_scheduler.specs.declared.call.Reply.TheVariants as replies
use Rattle.link_scheduler.specs.Calls.State.{MakesEach}
use Rattle.link_scripts.specs.Schedule.{zeroed}
use Rattle.link_scripts.specs.Script.{line_of}
use Rattle.link_scripts.specs.declared.linkrun.command.Command.TheVariants as commands
use Rattle.link_simulation.proofs.Simulation.QuietInstants.{next_is_later}
use Rattle.link_simulation.specs.Simulation.Messages.{Message}
use Rattle.link_traces.specs.declared.linkcheck.batch.Batch.{Batch}
use Rattle.link_traces.specs.Batches.{call_to_send}
use Rattle.link_traces.proofs.Replying.{made_is_simulated}
use Rattle.link_traces.proofs.Tracing.{after_more}

-- ---- replies that say nothing

-- as many of them as there are calls
abbrev pub silent : List (script.Call ℕ ℕ) → List (Reply ℕ)
silent calls = map (λ c. reply_done []) calls

silent_text : (calls : List (script.Call ℕ ℕ)) → transcript_of calls (silent calls) ≡ flat_map call_line calls
silent_text [] = refl
silent_text (c ∷ calls) = ap (λ t. call_line c ++ t) (silent_text calls)

silent_done : (calls : List (script.Call ℕ ℕ)) → flat_map done_in (silent calls) ≡ []
silent_done [] = refl
silent_done (c ∷ calls) = silent_done calls

-- the transcript of some calls, and of some more
transcript-append : (calls more : List (script.Call ℕ ℕ)) (replies others : List (Reply ℕ))
    → length calls ≡ length replies
    → transcript_of (calls ++ more) (replies ++ others) ≡ transcript_of calls replies ++ transcript_of more others
transcript-append [] more [] others paired = refl
transcript-append [] more (r ∷ rs) others paired = absurd (omega (arith, paired))
transcript-append (c ∷ cs) more [] others paired = absurd (omega (arith, paired))
transcript-append (c ∷ cs) more (r ∷ rs) others paired =
    let rest = transcript_of more others in
    ap (λ t. call_line c ++ (reply_text r ++ t)) (transcript-append cs more rs others (omega (arith, paired)))
    ∙ ap (λ t. call_line c ++ t) (sym (append_assoc (reply_text r) (transcript_of cs rs) rest))
    ∙ sym (append_assoc (call_line c) (reply_text r ++ transcript_of cs rs) rest)

front_none : {X : Type 0} (xs ys : List X) → [] ≡ xs ++ ys → xs ≡ []
front_none [] ys e = refl
front_none (x ∷ xs) ys e = absurd (omega (arith, ap length e))

back_none : {X : Type 0} (xs ys : List X) → [] ≡ xs ++ ys → ys ≡ []
back_none [] ys e = sym e
back_none (x ∷ xs) ys e = absurd (omega (arith, ap length e))

-- ---- by the event rule

module _ (now : ℕ) where
  sends_obey : (ms : List (Outgoing ℕ ℕ)) (p q : Planned ℕ) → MakesEach nat_cmp p (zeroed_sends now ms) [] q
      → (cs : List (Call ℕ)) (rs : List (Reply ℕ)) → Obeyed nat_cmp q cs rs
      → Obeyed nat_cmp p (map world_call (map (call_to_send now) ms) ++ cs) (silent (map (call_to_send now) ms) ++ rs)
  sends_obey [] p q (none, same) cs rs after = subst (λ (r : Planned ℕ). Obeyed nat_cmp r cs rs) same after
  sends_obey (m ∷ ms) p q (first, rest, between, is, makes, others) cs rs after =
      let calls = map world_call (map (call_to_send now) ms) ++ cs in
      let made = subst (λ (done : List (Completed ℕ)). Makes nat_cmp p (call_enqueue now (zeroed m)) done between)
      (front_none first rest is) makes in
      one_more nat_cmp nat_cmp_total p between (call_enqueue now (zeroed m)) (reply_done []) calls
      (silent (map (call_to_send now) ms) ++ rs) made.by_rule
      (sends_obey ms between q
      (subst (λ (done : List (Completed ℕ)). MakesEach nat_cmp between (zeroed_sends now ms) done q)
      (back_none first rest is) others) cs rs after)

  -- ---- in the simulation

  -- calls are made from the world w on and say nothing, and lead to a world at their moment that q stands for
  pub record IsSimulatedBatch (w : World ℕ) (calls : List (script.Call ℕ ℕ)) (q : Planned ℕ) : Type 0 where
    pub after : World ℕ
    pub moment : after.moment ≡ now
    pub stands : StandsFor nat_cmp q after
    pub goes_on : (cs : List (Call ℕ)) (rs : List (Reply ℕ)) → AgreesInTurn nat_cmp after cs rs
        → AgreesInTurn nat_cmp w (map world_call calls ++ cs) (silent calls ++ rs)

  -- at the moment that is reached messages are sent in turn
  in_turn_at : (v : World ℕ) → v.moment ≡ now → (m : Message ℕ) → IsInTurn nat_cmp v (call_enqueue now m)
  in_turn_at v at m = (
    omega (arith, at),
    λ next is. subst (λ (k : ℕ). IfSome next (λ t. k < t)) at (next_is_later nat_cmp nat_cmp_total v next is),
  )

  one_simulated : (m : Message ℕ) (p q : Planned ℕ) (w : World ℕ) (done : List (Completed ℕ))
      → Makes nat_cmp p (call_enqueue now m) done q → done ≡ [] → StandsFor nat_cmp p w
      → IsInTurn nat_cmp w (call_enqueue now m)
      → IsSimulatedReply nat_cmp w (call_enqueue now m) (reply_done []) q
  one_simulated m p q w done makes none stands turn =
      made_is_simulated nat_cmp nat_cmp_total p q w (call_enqueue now m) now []
      (subst (λ (cs : List (Completed ℕ)). Makes nat_cmp p (call_enqueue now m) cs q) none makes) stands turn refl refl

  sends_simulated : (m : Outgoing ℕ ℕ) (ms : List (Outgoing ℕ ℕ)) (p q : Planned ℕ) (w : World ℕ)
      → MakesEach nat_cmp p (zeroed_sends now (m ∷ ms)) [] q → StandsFor nat_cmp p w
      → ((n : Message ℕ) → IsInTurn nat_cmp w (call_enqueue now n))
      → IsSimulatedBatch w (map (call_to_send now) (m ∷ ms)) q
  sends_simulated m [] p q w (first, rest, between, is, makes, ended) stands turn =
      let one = one_simulated (zeroed m) p between w first makes (front_none first rest is) stands (turn (zeroed m)) in
      record {
        after = one.after;
        moment = one.moment;
        stands = subst (λ (r : Planned ℕ). StandsFor nat_cmp r one.after) (sym ended.1) one.stands;
        goes_on = λ cs rs rest. (turn (zeroed m), (one.after, one.replies, rest));
      }
  sends_simulated m (n ∷ ms) p q w (first, rest, between, is, makes, others) stands turn =
      let one = one_simulated (zeroed m) p between w first makes (front_none first rest is) stands (turn (zeroed m)) in
      let more =
      sends_simulated n ms between q one.after
      (subst (λ (done : List (Completed ℕ)). MakesEach nat_cmp between (zeroed_sends now (n ∷ ms)) done q)
      (back_none first rest is) others) one.stands (in_turn_at one.after one.moment) in
      record {
        after = more.after;
        moment = more.moment;
        stands = more.stands;
        goes_on = λ cs rs after. (turn (zeroed m), (one.after, one.replies, more.goes_on cs rs after));
      }

  pub sends_in_turn : (ms : List (Outgoing ℕ ℕ)) (p q : Planned ℕ) (w : World ℕ) → 0 < length ms
      → MakesEach nat_cmp p (zeroed_sends now ms) [] q → StandsFor nat_cmp p w
      → ((n : Message ℕ) → IsInTurn nat_cmp w (call_enqueue now n))
      → IsSimulatedBatch w (map (call_to_send now) ms) q
  sends_in_turn [] p q w some made stands turn = absurd (omega (arith, some))
  sends_in_turn (m ∷ ms) p q w some made stands turn = sends_simulated m ms p q w made stands turn

-- ---- what was told

-- calls and replies, and some more, and then others
regroup : (R : List (Call ℕ) → List (Reply ℕ) → Type 0) (calls more : List (script.Call ℕ ℕ)) (cs : List (Call ℕ))
    (replies others rs : List (Reply ℕ))
    → R (map world_call calls ++ (map world_call more ++ cs)) (replies ++ (others ++ rs))
    → R (map world_call (calls ++ more) ++ cs) ((replies ++ others) ++ rs)
regroup R calls more cs replies others rs is =
    subst (λ (l : List (Call ℕ)). R l ((replies ++ others) ++ rs))
    (sym (append_assoc (map world_call calls) (map world_call more) cs)
    ∙ ap (λ l. l ++ cs) (sym (map-append world_call calls more)))
    (subst (λ (l : List (Reply ℕ)). R (map world_call calls ++ (map world_call more ++ cs)) l)
    (sym (append_assoc replies others rs)) is)

-- a batch is sent at once and silently
pub record IsSentSilently (old new : Progress) (b : Batch) : Type 0 where
  pub in_range : All IsCallOfScriptInRange (batch_calls b)
  pub some : 0 < length b.messages.items
  pub reply : reply_code.Reply ℕ (List ℕ)
  pub answered : AnswersEach (zeroed_sends b.moment b.messages.items) old.scheduler reply new.scheduler
  pub nothing : reply_of reply ≡ reply_done []
  pub turn : (w : World ℕ) → w.moment ≡ old.reached → StandsFor nat_cmp (planned_of old.scheduler) w
      → (m : Message ℕ) → IsInTurn nat_cmp w (call_enqueue b.moment m)
  pub out_of_turn : new.out_of_turn ≡ old.out_of_turn
  pub off : new.off ≡ old.off
  pub due : due new ≡ due old
  pub reached : new.reached ≡ b.moment
  pub calls : new.calls ≡ old.calls + length b.messages.items
  pub completions : new.completions ≡ old.completions

-- what is answered in all and says nothing is made so
made_silently : (old new : Progress) (calls : List (Call ℕ)) (reply : reply_code.Reply ℕ (List ℕ))
    → AnswersEach calls old.scheduler reply new.scheduler → reply_of reply ≡ reply_done []
    → MakesEach nat_cmp (planned_of old.scheduler) calls [] (planned_of new.scheduler)
made_silently old new calls (replies.Done completions) made none =
    let nothing : map completed_of completions.items ≡ [] = cc in
    subst (λ (done : List (Completed ℕ)). MakesEach nat_cmp (planned_of old.scheduler) calls done
    (planned_of new.scheduler)) nothing made
made_silently old new calls (replies.Next moment) made none = absurd made
made_silently old new calls (replies.Refused why) made none = absurd made

written_with : (told late : List ℕ) (calls more : List (script.Call ℕ ℕ)) (replies : List (Reply ℕ))
    → length calls ≡ length replies → told ++ late ≡ transcript_of calls replies → late ≡ []
    → (told ++ flat_map call_line more) ++ late ≡ transcript_of (calls ++ more) (replies ++ silent more)
written_with told late calls more replies paired written none =
    ap (λ l. (told ++ flat_map call_line more) ++ l) none
    ∙ append-nil (told ++ flat_map call_line more)
    ∙ ap (λ l. l ++ flat_map call_line more) (sym (append-nil told) ∙ ap (λ l. told ++ l) (sym none) ∙ written)
    ∙ ap (λ l. transcript_of calls replies ++ l) (sym (silent_text more))
    ∙ sym (transcript-append calls more replies (silent more) paired)

count_with : {X : Type 0} (xs ys : List X) (n k m : ℕ) → length xs ≡ n → length ys ≡ k → m ≡ n + k
    → length (xs ++ ys) ≡ m
count_with xs ys n k m is more sum = omega (arith, length-append xs ys, is, more, sum)

pub sent : (said : List ℕ) (old new : Progress) (b : Batch) → IsSentSilently old new b → IsTold said old
    → due old ≡ [] → IsTold (said ++ batch_lines b) new
sent said old new b is before none =
    let made = made_silently old new (zeroed_sends b.moment b.messages.items) is.reply is.answered is.nothing in record {
      calls = before.calls ++ batch_calls b;
      replies = before.replies ++ silent (batch_calls b);
      told = before.told ++ batch_lines b;
      in_range = All-append IsCallOfScriptInRange before.calls (batch_calls b) before.in_range is.in_range;
      paired = count_with before.calls (batch_calls b) (length before.replies) (length (silent (batch_calls b)))
          (length (before.replies ++ silent (batch_calls b))) before.paired
          (sym (length-map (batch_calls b) (λ c. reply_done [])))
          (length-append before.replies (silent (batch_calls b)));
      written = ap (λ l. (before.told ++ batch_lines b) ++ l) is.due
          ∙ written_with before.told (due old) before.calls (batch_calls b) before.replies before.paired before.written none;
      exact = λ e. ap (λ t. t ++ batch_lines b) (before.exact (sym is.off ∙ e));
      obeys = λ cs rs after. regroup (λ l r. Obeyed nat_cmp (new_planned 0) l r) before.calls (batch_calls b) cs
          before.replies (silent (batch_calls b)) rs
          (before.obeys (map world_call (batch_calls b) ++ cs) (silent (batch_calls b) ++ rs)
          (sends_obey b.moment b.messages.items (planned_of old.scheduler) (planned_of new.scheduler) made cs rs after));
      in_turn = λ e.
          let was = before.in_turn (sym is.out_of_turn ∙ e) in
          let now =
          sends_in_turn b.moment b.messages.items (planned_of old.scheduler) (planned_of new.scheduler) was.0 is.some
          made was.2 (is.turn was.0 was.1 was.2) in (
            now.after,
            now.moment ∙ sym is.reached,
            now.stands,
            λ cs rs after. regroup (λ l r. AgreesInTurn nat_cmp (new_world 0) l r) before.calls (batch_calls b) cs
                before.replies (silent (batch_calls b)) rs
                (was.3 (map world_call (batch_calls b) ++ cs) (silent (batch_calls b) ++ rs) (now.goes_on cs rs after)),
          );
      call_count = count_with before.calls (batch_calls b) old.calls (length b.messages.items) new.calls before.call_count
          (length-map b.messages.items (call_to_send b.moment)) is.calls;
      completion_count = ap length (flat_map-append done_in before.replies (silent (batch_calls b)))
          ∙ ap (λ l. length (flat_map done_in before.replies ++ l)) (silent_done (batch_calls b))
          ∙ ap length (append-nil (flat_map done_in before.replies))
          ∙ before.completion_count ∙ sym is.completions;
    }

-- what was told stays, where what is planned does
pub still_told : (said : List ℕ) (old new : Progress) → planned_of new.scheduler ≡ planned_of old.scheduler
    → due new ≡ due old → new.off ≡ old.off → new.out_of_turn ≡ old.out_of_turn → new.reached ≡ old.reached
    → new.calls ≡ old.calls → new.completions ≡ old.completions → IsTold said old → IsTold said new
still_told said old new planned same off turn reached calls completions before = record {
  calls = before.calls;
  replies = before.replies;
  told = before.told;
  in_range = before.in_range;
  paired = before.paired;
  written = ap (λ l. before.told ++ l) same ∙ before.written;
  exact = λ e. before.exact (sym off ∙ e);
  obeys = λ cs rs. subst
      (λ (p : Planned ℕ). Obeyed nat_cmp p cs rs
      → Obeyed nat_cmp (new_planned 0) (map world_call before.calls ++ cs) (before.replies ++ rs))
      (sym planned) (before.obeys cs rs);
  in_turn = λ e.
      let was = before.in_turn (sym turn ∙ e) in (
        was.0,
        was.1 ∙ sym reached,
        subst (λ (p : Planned ℕ). StandsFor nat_cmp p was.0) (sym planned) was.2,
        was.3,
      );
  call_count = before.call_count ∙ sym calls;
  completion_count = before.completion_count ∙ sym completions;
}

-- ---- lines

-- the lines of a batch go to the end
pub batch_goes_on : (old new : Checker) (text more : List ℕ)
    → ((said : List ℕ) → IsTold said old.progress → IsTold (said ++ more) new.progress) → new.turns ≡ old.turns
    → new.tolerance ≡ old.tolerance → new.progress.out_of_turn ≡ old.progress.out_of_turn → (new.lines ≡ 0 → ⊥)
    → IsUnderway text old → IsUnderway (text ++ more) new
batch_goes_on old new text more goes turns tolerance turn some is = record {
  trace = is.trace ++ more;
  after = after_more old.tolerance new.tolerance text is.trace more tolerance is.after;
  told = goes is.trace is.told;
  first = λ e. absurd (some e);
  in_turn = λ e. turn ∙ is.in_turn (sym turns ∙ e);
}

-- ---- what is gathered

-- without a cause a call is timely
pub timely_of : {X : Type 0} (cause : Option X) (A : Type 0) (B : X → Type 0) → cause ≡ None
    → MatchOption cause A B → A
timely_of None A B none is = is
timely_of (Some x) A B none is = absurd cc

-- a line more stands in front
pub front_more : (b new : Batch) (bytes line : List ℕ) (call : script.Call ℕ ℕ) → IsFront b bytes
    → drop b.length bytes ≡ line ++ 10 ∷ drop new.length bytes → line ≡ line_of (commands.Schedule call)
    → batch_calls new ≡ batch_calls b ++ call ∷ [] → IsFront new bytes
front_more b new bytes line call front cut says calls =
    let after : drop b.length bytes ≡ call_line call ++ drop new.length bytes =
    cut ∙ ap (λ xs. xs ++ 10 ∷ drop new.length bytes) says
    ∙ sym (append_assoc (line_of (commands.Schedule call)) (10 ∷ []) (drop new.length bytes)) in
    let lines : batch_lines new ≡ batch_lines b ++ call_line call =
    ap (flat_map call_line) calls ∙ flat_map-append call_line (batch_calls b) (call ∷ [])
    ∙ ap (λ xs. batch_lines b ++ xs) (append-nil (call_line call)) in
    front ∙ ap (λ xs. batch_lines b ++ xs) after ∙ sym (append_assoc (batch_lines b) (call_line call) (drop new.length bytes))
    ∙ ap (λ xs. xs ++ drop new.length bytes) (sym lines)

-- and is in range
pub in_range_more : (calls more : List (script.Call ℕ ℕ)) (call : script.Call ℕ ℕ) → All IsCallOfScriptInRange calls
    → IsCallOfScriptInRange call → more ≡ calls ++ call ∷ [] → All IsCallOfScriptInRange more
in_range_more calls more call all one is =
    subst (λ l. All IsCallOfScriptInRange l) (sym is)
    (All-append IsCallOfScriptInRange calls (call ∷ []) all
    (All-cons IsCallOfScriptInRange call [] one (All-nil IsCallOfScriptInRange)))
