-- Traces, call by call.
use Rattle.link_traces.proofs.Common.{◌≡◌, ℕ, ◌+◌, ◌<◌, ◌≤◌, List, [], ◌∷◌, ◌++◌, length, map, drop, Option, None, Some}
use Rattle.link_traces.proofs.Common.{subst, refl, sym, ap, ◌∙◌, append_assoc, append-nil, arith, Ok, IfOk}
use Rattle.link_traces.proofs.Common.{nat_cmp_total, flat_map-append, map-append, length-append, All-append, All-cons}
use Rattle.link_traces.proofs.Common.{All-nil, flat_map, nat_cmp, IsReplyTo, planned_of, reply_text, world_call}
use Rattle.link_traces.proofs.Common.{IsCallOfScriptInRange, Planned, new_planned, Obeyed, StandsFor, IsInTurn, Reply}
use Rattle.link_traces.proofs.Common.{World, new_world, Checker, Progress, Within, Input, TooLong, IsUnderway, due}
use Rattle.link_traces.proofs.Common.{IsTold, call_line, done_in, transcript_of, IsAllowed, IsAgreed, tolerance_line}
use Rattle.link_traces.proofs.Common.{Consumes, AgreesInTurn, IsSimulatedReply, reached_after}
use Rattle.std.proofs.Common.{min}
use Rattle.std.proofs.Common.{inl, inr, Result, Err, length-drop, drop_of_length-le}
use Rattle.link_scheduler.specs.declared.call.Call as script
use Rattle.link_simulation.proofs.Rule.Agreeing.{obeyed_agree}
use Rattle.link_traces.specs.declared.linkcheck.report.Verdict.TheVariants.{Agrees}
use Rattle.link_traces.specs.declared.linkcheck.report.Verdict.{Verdict}
use Rattle.std.specs.Option.{unwrap_or}
use Rattle.link_traces.specs.declared.linkcheck.Fault.{Fault}
use Rattle.link_traces.specs.declared.linkcheck.Turns.TheVariants.{InTurn}
use Rattle.link_traces.specs.Lines.{taken}
use Rattle.link_scripts.specs.declared.linkrun.line.LineEnd.{LineEnd}
use Rattle.link_scripts.specs.declared.linkrun.line.LineEnd.TheVariants.{Newline}
use Rattle.link_traces.specs.declared.linkcheck.report.Report.{Report}
use Rattle.link_traces.specs.Checker.{IsTakenOf, GoesOn}
use Rattle.link_traces.specs.Trace.{IsTranscript, IsHeadedTranscript}
use Rattle.link_traces.specs.Trace.{IsAfterTolerance}
use Rattle.std.specs.Io.KnownBytes.{IsAtEnd}
use Rattle.std.specs.Option.{IfSome}
use Rattle.link_traces.proofs.Reading.{consumes_none, consumes_more}
use Rattle.link_traces.proofs.Ranges.{come_in_time}
use Rattle.link_traces.proofs.Replying.{obeys_more, in_turn_more}

-- ---- transcripts

-- a transcript with one call more
pub transcript_more : (calls : List (script.Call ℕ ℕ)) (replies : List (Reply ℕ)) (call : script.Call ℕ ℕ)
    (reply : Reply ℕ) → length calls ≡ length replies
    → transcript_of (calls ++ call ∷ []) (replies ++ reply ∷ [])
    ≡ transcript_of calls replies ++ (call_line call ++ reply_text reply)
transcript_more [] [] call reply paired = ap (λ t. call_line call ++ t) (append-nil (reply_text reply))
transcript_more [] (r ∷ rs) call reply paired = absurd (omega (arith, paired))
transcript_more (c ∷ cs) [] call reply paired = absurd (omega (arith, paired))
transcript_more (c ∷ cs) (r ∷ rs) call reply paired =
    let more = call_line call ++ reply_text reply in
    ap (λ t. call_line c ++ (reply_text r ++ t)) (transcript_more cs rs call reply (omega (arith, paired)))
    ∙ ap (λ t. call_line c ++ t) (sym (append_assoc (reply_text r) (transcript_of cs rs) more))
    ∙ sym (append_assoc (call_line c) (reply_text r ++ transcript_of cs rs) more)

-- the text of what was told and of what is due, with one call more
pub written_more : (told late : List ℕ) (calls : List (script.Call ℕ ℕ)) (replies : List (Reply ℕ))
    (call : script.Call ℕ ℕ) (reply : Reply ℕ) → length calls ≡ length replies
    → told ++ late ≡ transcript_of calls replies → late ≡ []
    → (told ++ call_line call) ++ reply_text reply ≡ transcript_of (calls ++ call ∷ []) (replies ++ reply ∷ [])
written_more told late calls replies call reply paired written none =
    let all : told ≡ transcript_of calls replies =
    sym (append-nil told) ∙ ap (λ l. told ++ l) (sym none) ∙ written in
    append_assoc told (call_line call) (reply_text reply)
    ∙ ap (λ t. t ++ (call_line call ++ reply_text reply)) all
    ∙ sym (transcript_more calls replies call reply paired)

-- ---- nothing

pub told_nothing : (p : Progress) → due p ≡ [] → planned_of p.scheduler ≡ new_planned 0
    → StandsFor nat_cmp (planned_of p.scheduler) (new_world 0) → p.reached ≡ 0 → p.calls ≡ 0 → p.completions ≡ 0
    → IsTold [] p
told_nothing p none planned stands reached calls completions = record {
  calls = [];
  replies = [];
  told = [];
  in_range = All-nil IsCallOfScriptInRange;
  paired = refl;
  written = none;
  exact = λ e. refl;
  obeys = λ cs rs h. subst (λ (q : Planned ℕ). Obeyed nat_cmp q cs rs) planned h;
  in_turn = λ e. (new_world 0, sym reached, stands, λ cs rs h. h);
  call_count = sym calls;
  completion_count = sym completions;
}

-- ---- one call more

-- what is asked, replied and kept of it
pub record IsAsked (old new : Progress) (call : script.Call ℕ ℕ) (reply : Reply ℕ) : Type 0 where
  pub in_range : IsCallOfScriptInRange call
  pub by_rule : IsReplyTo nat_cmp (planned_of old.scheduler) (world_call call) reply (planned_of new.scheduler)
  pub simulated : (w : World ℕ) → StandsFor nat_cmp (planned_of old.scheduler) w
      → IsInTurn nat_cmp w (world_call call)
      → IsSimulatedReply nat_cmp w (world_call call) reply (planned_of new.scheduler)
  pub turn : new.out_of_turn ≡ None → (old.out_of_turn ≡ None) × ((w : World ℕ) → w.moment ≡ old.reached
      → StandsFor nat_cmp (planned_of old.scheduler) w → IsInTurn nat_cmp w (world_call call))
  pub off : new.off ≡ old.off
  pub answers : due new ≡ reply_text reply
  pub reached : new.reached ≡ reached_after old.reached (world_call call) reply
  pub calls : new.calls ≡ old.calls + 1
  pub completions : new.completions ≡ old.completions + length (done_in reply)

count_more : {X : Type 0} (xs : List X) (x : X) (n m : ℕ) → length xs ≡ n → m ≡ n + 1 → length (xs ++ x ∷ []) ≡ m
count_more xs x n m is next = omega (arith, length-append xs (x ∷ []), is, next)

done_more : (replies : List (Reply ℕ)) (reply : Reply ℕ) (n m : ℕ) → length (flat_map done_in replies) ≡ n
    → m ≡ n + length (done_in reply) → length (flat_map done_in (replies ++ reply ∷ [])) ≡ m
done_more replies reply n m is next =
    ap length (flat_map-append done_in replies (reply ∷ []))
    ∙ length-append (flat_map done_in replies) (flat_map done_in (reply ∷ []))
    ∙ ap (λ k. k + length (flat_map done_in (reply ∷ []))) is
    ∙ ap (λ (xs : List _). n + length xs) (append-nil (done_in reply))
    ∙ sym next

pub asked : (said : List ℕ) (old new : Progress) (call : script.Call ℕ ℕ) (reply : Reply ℕ)
    → IsAsked old new call reply → IsTold said old → due old ≡ [] → IsTold (said ++ call_line call) new
asked said old new call reply is before none = record {
  calls = before.calls ++ call ∷ [];
  replies = before.replies ++ reply ∷ [];
  told = before.told ++ call_line call;
  in_range = All-append IsCallOfScriptInRange before.calls (call ∷ []) before.in_range
      (All-cons IsCallOfScriptInRange call [] is.in_range (All-nil IsCallOfScriptInRange));
  paired = count_more before.calls call (length before.replies) (length (before.replies ++ reply ∷ [])) before.paired
      (length-append before.replies (reply ∷ []));
  written = ap (λ late. (before.told ++ call_line call) ++ late) is.answers
      ∙ written_more before.told (due old) before.calls before.replies call reply before.paired before.written none;
  exact = λ e. ap (λ t. t ++ call_line call) (before.exact (sym is.off ∙ e));
  obeys = λ cs rs. subst
      (λ (l : List _). Obeyed nat_cmp (planned_of new.scheduler) cs rs
      → Obeyed nat_cmp (new_planned 0) (l ++ cs) ((before.replies ++ reply ∷ []) ++ rs))
      (sym (map-append world_call before.calls (call ∷ [])))
      (obeys_more nat_cmp nat_cmp_total (planned_of old.scheduler) (planned_of new.scheduler)
      (map world_call before.calls) before.replies (world_call call) reply before.obeys is.by_rule cs rs);
  in_turn = λ e.
      let turn = is.turn e in
      let was = before.in_turn turn.0 in
      let comes = turn.1 was.0 was.1 was.2 in
      let now = is.simulated was.0 was.2 comes in (
        now.after,
        now.moment ∙ ap (λ r. reached_after r (world_call call) reply) was.1 ∙ sym is.reached,
        now.stands,
        λ cs rs. subst
            (λ (l : List _). AgreesInTurn nat_cmp now.after cs rs
            → AgreesInTurn nat_cmp (new_world 0) (l ++ cs) ((before.replies ++ reply ∷ []) ++ rs))
            (sym (map-append world_call before.calls (call ∷ [])))
            (in_turn_more nat_cmp nat_cmp_total was.0 now.after (map world_call before.calls) before.replies
            (world_call call) reply was.3 comes now.replies cs rs),
      );
  call_count = count_more before.calls call old.calls new.calls before.call_count is.calls;
  completion_count = done_more before.replies reply old.completions new.completions before.completion_count
      is.completions;
}

-- ---- one line of an answer more

-- a line that is due is told, and the trace says one in its place
pub record IsHeard (old new : Progress) (said told : List ℕ) : Type 0 where
  pub scheduler : new.scheduler ≡ old.scheduler
  pub turn : new.out_of_turn ≡ old.out_of_turn
  pub reached : new.reached ≡ old.reached
  pub calls : new.calls ≡ old.calls
  pub completions : new.completions ≡ old.completions
  pub answers : due old ≡ told ++ due new
  pub exact : new.off ≡ None → (old.off ≡ None) × (said ≡ told)

pub heard : (text said told : List ℕ) (old new : Progress) → IsHeard old new said told → IsTold text old
    → IsTold (text ++ said) new
heard text said told old new is before = record {
  calls = before.calls;
  replies = before.replies;
  told = before.told ++ told;
  in_range = before.in_range;
  paired = before.paired;
  written = append_assoc before.told told (due new) ∙ ap (λ t. before.told ++ t) (sym is.answers) ∙ before.written;
  exact = λ e. let exactly = is.exact e in
      ap (λ t. t ++ said) (before.exact exactly.0) ∙ ap (λ t. before.told ++ t) exactly.1;
  obeys = λ cs rs. subst
      (λ s. Obeyed nat_cmp (planned_of s) cs rs
      → Obeyed nat_cmp (new_planned 0) (map world_call before.calls ++ cs) (before.replies ++ rs))
      (sym is.scheduler) (before.obeys cs rs);
  in_turn = λ e.
      let was = before.in_turn (sym is.turn ∙ e) in (
        was.0,
        was.1 ∙ sym is.reached,
        subst (λ s. StandsFor nat_cmp (planned_of s) was.0) (sym is.scheduler) was.2,
        was.3,
      );
  call_count = before.call_count ∙ sym is.calls;
  completion_count = before.completion_count ∙ sym is.completions;
}

-- ---- the end

-- where all is said and no moment is off, that is a transcript
pub is_transcript : (text : List ℕ) (p : Progress) (report : Report) → IsTold text p → due p ≡ [] → p.off ≡ None
    → 0 < p.calls → report.calls ≡ p.calls → report.completions ≡ p.completions
    → report.out_of_turn ≡ p.out_of_turn → IsTranscript text report
is_transcript text p report told none exact some calls completions turn =
    let obeyed : Obeyed nat_cmp (new_planned 0) (map world_call told.calls) told.replies =
    subst (λ (l : List _). Obeyed nat_cmp (new_planned 0) l told.replies) (append-nil (map world_call told.calls))
    (subst (Obeyed nat_cmp (new_planned 0) (map world_call told.calls ++ [])) (append-nil told.replies)
    (told.obeys [] [] tt)) in
    record {
      calls = told.calls;
      replies = told.replies;
      in_range = told.in_range;
      written = told.exact exact ∙ sym (append-nil told.told) ∙ ap (λ l. told.told ++ l) (sym none) ∙ told.written;
      agrees = obeyed_agree nat_cmp nat_cmp_total (map world_call told.calls) told.replies
          (come_in_time told.calls told.in_range) obeyed;
      obeys = obeyed;
      in_turn = λ e.
          let was = told.in_turn (sym turn ∙ e) in
          subst (λ (l : List _). AgreesInTurn nat_cmp (new_world 0) l told.replies)
          (append-nil (map world_call told.calls))
          (subst (AgreesInTurn nat_cmp (new_world 0) (map world_call told.calls ++ [])) (append-nil told.replies)
          (was.3 [] [] tt));
      call_count = told.call_count ∙ sym calls;
      some_calls = subst (λ n. 0 < n) (sym calls) some;
      completion_count = told.completion_count ∙ sym completions;
    }

-- and so is the text of the whole trace
pub is_headed : (text : List ℕ) (c : Checker) (report : Report) → IsUnderway text c → due c.progress ≡ []
    → c.progress.off ≡ None → (c.progress.calls ≡ 0 → ⊥) → report.calls ≡ c.progress.calls
    → report.completions ≡ c.progress.completions → report.out_of_turn ≡ c.progress.out_of_turn
    → IsHeadedTranscript text report
is_headed text c report is none exact some calls completions turn = record {
  tolerance = c.tolerance;
  trace = is.trace;
  after = is.after;
  transcript = is_transcript is.trace c.progress report is.told none exact (omega (arith, some)) calls completions turn;
}

-- ---- lines

pub none_of_length : (xs : List ℕ) → length xs ≡ 0 → xs ≡ []
none_of_length [] e = refl
none_of_length (x ∷ xs) e = absurd (omega (arith, e))

pub some_is_not_none : {A : Type 0} (n : ℕ) → Some n ≡ None → A
some_is_not_none n e = absurd cc

-- where all is said, nothing is due
pub all_said : (xs : List ℕ) (n : ℕ) → length xs ≤ n → drop n xs ≡ []
all_said xs n le = drop_of_length-le xs le

pub not_all_said : (xs : List ℕ) (n : ℕ) → drop n xs ≡ [] → length xs ≤ n
not_all_said xs n e = omega (arith, length-drop n xs, ap length e)

-- ---- what is read

-- the bytes that were taken so far agree
pub record IsTakenSoFar (old new : Option (List ℕ)) (before after : Checker) : Type 0 where
  pub text : List ℕ
  pub taken : Consumes old new text
  pub underway : IsUnderway text after
  pub turns : after.turns ≡ before.turns

pub none_taken : (a : Option (List ℕ)) (c : Checker) → IsUnderway [] c → IsTakenSoFar a a c c
none_taken a c is = record { text = []; taken = consumes_none a; underway = is; turns = refl }

pub one_taken : (old mid new : Option (List ℕ)) (before between after : Checker) (line : List ℕ)
    → IsTakenSoFar old mid before between → Consumes mid new (line ++ 10 ∷ [])
    → ((text : List ℕ) → IsUnderway text between → IsUnderway (text ++ (line ++ 10 ∷ [])) after)
    → after.turns ≡ between.turns → IsTakenSoFar old new before after
one_taken old mid new before between after line is takes goes_on same = record {
  text = is.text ++ (line ++ 10 ∷ []);
  taken = consumes_more old mid new is.text (line ++ 10 ∷ []) is.taken takes;
  underway = goes_on is.text is.underway;
  turns = same ∙ is.turns;
}

-- at the end, after a line with its end byte
pub agreed_at_end : (old mid new : Option (List ℕ)) (before c : Checker) (report : Report)
    → IsTakenSoFar old mid before c → Consumes mid new [] → IsAtEnd new
    → ((text : List ℕ) → IsUnderway text c → IsHeadedTranscript text report)
    → IfSome old (λ bytes. IsAgreed bytes report)
agreed_at_end None mid new before c report is takes end headed = tt
agreed_at_end (Some bytes) None new before c report is takes end headed = absurd is.taken
agreed_at_end (Some bytes) (Some mid) None before c report is takes end headed = absurd takes
agreed_at_end (Some bytes) (Some mid) (Some new) before c report is takes end headed = record {
  text = is.text;
  closed = inl (sym (is.taken ∙ ap (λ l. is.text ++ l) (takes ∙ end) ∙ append-nil is.text));
  headed = headed is.text is.underway;
}

-- and after one without
pub agreed_at_last : (old mid new : Option (List ℕ)) (before between c : Checker) (line : List ℕ) (report : Report)
    → IsTakenSoFar old mid before between → Consumes mid new line → IsAtEnd new
    → ((text : List ℕ) → IsUnderway text between → IsUnderway (text ++ (line ++ 10 ∷ [])) c)
    → ((text : List ℕ) → IsUnderway text c → IsHeadedTranscript text report)
    → IfSome old (λ bytes. IsAgreed bytes report)
agreed_at_last None mid new before between c line report is takes end goes_on headed = tt
agreed_at_last (Some bytes) None new before between c line report is takes end goes_on headed = absurd is.taken
agreed_at_last (Some bytes) (Some mid) None before between c line report is takes end goes_on headed = absurd takes
agreed_at_last (Some bytes) (Some mid) (Some new) before between c line report is takes end goes_on headed =
    let all : bytes ≡ is.text ++ line =
    is.taken ∙ ap (λ l. is.text ++ l) (takes ∙ ap (λ l. line ++ l) end ∙ append-nil line) in
    record {
      text = is.text ++ (line ++ 10 ∷ []);
      closed = inr (sym (append_assoc is.text line (10 ∷ [])) ∙ ap (λ l. l ++ 10 ∷ []) (sym all));
      headed = headed (is.text ++ (line ++ 10 ∷ [])) (goes_on is.text is.underway);
    }

-- the same of what is concluded
pub concluded_at_end : (r : Result Report Fault) (old mid new : Option (List ℕ)) (before c : Checker) (end : LineEnd)
    (line : List ℕ)
    → IfOk r (λ report. report.verdict ≡ Agrees → (text : List ℕ) → IsUnderway text c
    → IsHeadedTranscript text report)
    → IsTakenSoFar old mid before c → Consumes mid new (taken end line) → end ≡ Input → line ≡ [] → IsAtEnd new
    → IfOk r (λ report. report.verdict ≡ Agrees → IfSome old (λ bytes. IsAgreed bytes report))
concluded_at_end (Err fault) old mid new before c end line headed is takes input none stops = tt
concluded_at_end (Ok report) old mid new before c end line headed is takes input none stops =
    λ agrees. agreed_at_end old mid new before c report is
    (subst (λ l. Consumes mid new l) none (subst (λ e. Consumes mid new (taken e line)) input takes)) stops
    (headed agrees)

pub concluded_at_last : (r : Result Report Fault) (old mid new : Option (List ℕ)) (before between c : Checker)
    (end : LineEnd) (line : List ℕ)
    → IfOk r (λ report. report.verdict ≡ Agrees → (text : List ℕ) → IsUnderway text c
    → IsHeadedTranscript text report)
    → IsTakenSoFar old mid before between → Consumes mid new (taken end line) → end ≡ Input → IsAtEnd new
    → ((text : List ℕ) → IsUnderway text between → IsUnderway (text ++ (line ++ 10 ∷ [])) c)
    → IfOk r (λ report. report.verdict ≡ Agrees → IfSome old (λ bytes. IsAgreed bytes report))
concluded_at_last (Err fault) old mid new before between c end line headed is takes input stops goes_on = tt
concluded_at_last (Ok report) old mid new before between c end line headed is takes input stops goes_on =
    λ agrees. agreed_at_last old mid new before between c line report is
    (subst (λ e. Consumes mid new (taken e line)) input takes) stops goes_on (headed agrees)

-- ---- moments that are off

pub allowed_at_end : (old mid new : Option (List ℕ)) (before c : Checker) (off : ℕ)
    → IsTakenSoFar old mid before c → Consumes mid new [] → IsAtEnd new → off ≤ unwrap_or c.tolerance 0
    → IfSome old (λ bytes. IsAllowed bytes off)
allowed_at_end None mid new before c off is takes end within = tt
allowed_at_end (Some bytes) None new before c off is takes end within = absurd is.taken
allowed_at_end (Some bytes) (Some mid) None before c off is takes end within = absurd takes
allowed_at_end (Some bytes) (Some mid) (Some new) before c off is takes end within = record {
  text = is.text;
  closed = inl (sym (is.taken ∙ ap (λ l. is.text ++ l) (takes ∙ end) ∙ append-nil is.text));
  tolerance = c.tolerance;
  trace = is.underway.trace;
  after = is.underway.after;
  within = within;
}

pub allowed_at_last : (old mid new : Option (List ℕ)) (before between c : Checker) (line : List ℕ) (off : ℕ)
    → IsTakenSoFar old mid before between → Consumes mid new line → IsAtEnd new
    → ((text : List ℕ) → IsUnderway text between → IsUnderway (text ++ (line ++ 10 ∷ [])) c)
    → off ≤ unwrap_or c.tolerance 0 → IfSome old (λ bytes. IsAllowed bytes off)
allowed_at_last None mid new before between c line off is takes end goes_on within = tt
allowed_at_last (Some bytes) None new before between c line off is takes end goes_on within = absurd is.taken
allowed_at_last (Some bytes) (Some mid) None before between c line off is takes end goes_on within = absurd takes
allowed_at_last (Some bytes) (Some mid) (Some new) before between c line off is takes end goes_on within =
    let all : bytes ≡ is.text ++ line =
    is.taken ∙ ap (λ l. is.text ++ l) (takes ∙ ap (λ l. line ++ l) end ∙ append-nil line) in
    let underway = goes_on is.text is.underway in
    record {
      text = is.text ++ (line ++ 10 ∷ []);
      closed = inr (sym (append_assoc is.text line (10 ∷ [])) ∙ ap (λ l. l ++ 10 ∷ []) (sym all));
      tolerance = c.tolerance;
      trace = underway.trace;
      after = underway.after;
      within = within;
    }

pub concluded_within_at_end : (r : Result Report Fault) (old mid new : Option (List ℕ)) (before c : Checker)
    (end : LineEnd) (line : List ℕ)
    → IfOk r (λ report. (off : ℕ) → report.verdict ≡ Within off → off ≤ unwrap_or c.tolerance 0)
    → IsTakenSoFar old mid before c → Consumes mid new (taken end line) → end ≡ Input → line ≡ [] → IsAtEnd new
    → IfOk r (λ report. (off : ℕ) → report.verdict ≡ Within off → IfSome old (λ bytes. IsAllowed bytes off))
concluded_within_at_end (Err fault) old mid new before c end line within is takes input none stops = tt
concluded_within_at_end (Ok report) old mid new before c end line within is takes input none stops =
    λ off says. allowed_at_end old mid new before c off is
    (subst (λ l. Consumes mid new l) none (subst (λ e. Consumes mid new (taken e line)) input takes)) stops
    (within off says)

pub concluded_within_at_last : (r : Result Report Fault) (old mid new : Option (List ℕ)) (before between c : Checker)
    (end : LineEnd) (line : List ℕ)
    → IfOk r (λ report. (off : ℕ) → report.verdict ≡ Within off → off ≤ unwrap_or c.tolerance 0)
    → IsTakenSoFar old mid before between → Consumes mid new (taken end line) → end ≡ Input → IsAtEnd new
    → ((text : List ℕ) → IsUnderway text between → IsUnderway (text ++ (line ++ 10 ∷ [])) c)
    → IfOk r (λ report. (off : ℕ) → report.verdict ≡ Within off → IfSome old (λ bytes. IsAllowed bytes off))
concluded_within_at_last (Err fault) old mid new before between c end line within is takes input stops goes_on = tt
concluded_within_at_last (Ok report) old mid new before between c end line within is takes input stops goes_on =
    λ off says. allowed_at_last old mid new before between c line off is
    (subst (λ e. Consumes mid new (taken e line)) input takes) stops goes_on (within off says)

pub least_is_within : (o t off : ℕ) → Within (min o t) ≡ Within off → off ≤ t
least_is_within o t off says = let same : min o t ≡ off = cc in omega (arith, same)

pub agrees_is_not_within : {A : Type 0} (off : ℕ) → Agrees ≡ Within off → A
agrees_is_not_within off says = absurd cc

-- where calls have to be in turn, none is out of turn at the end
pub concluded_in_turn : (r : Result Report Fault) (before c : Checker) (text : List ℕ)
    → IfOk r (λ report. report.out_of_turn ≡ c.progress.out_of_turn) → IsUnderway text c → c.turns ≡ before.turns
    → IfOk r (λ report. before.turns ≡ InTurn → report.verdict ≡ Agrees → report.out_of_turn ≡ None)
concluded_in_turn (Err fault) before c text same is turns = tt
concluded_in_turn (Ok report) before c text same is turns = λ strict agrees. same ∙ is.in_turn (turns ∙ strict)

-- a line that is neither too long nor the last one has its end byte
pub taken_with_end : (mid new : Option (List ℕ)) (end : LineEnd) (line : List ℕ) → (end ≡ TooLong → ⊥)
    → (end ≡ Input → ⊥) → Consumes mid new (taken end line) → Consumes mid new (line ++ 10 ∷ [])
taken_with_end mid new Newline line long last takes = takes
taken_with_end mid new Input line long last takes = absurd (last refl)
taken_with_end mid new TooLong line long last takes = absurd (long refl)

-- ---- lines of a trace

-- what goes to the end of the text goes to the end of the trace
pub after_more : (old new : Option ℕ) (text trace more : List ℕ) → new ≡ old → IsAfterTolerance text old trace
    → IsAfterTolerance (text ++ more) new (trace ++ more)
after_more old new text trace more same is =
    subst (λ t. IsAfterTolerance (text ++ more) t (trace ++ more)) (sym same) (more_of old is)
  where
    more_of : (tolerance : Option ℕ) → IsAfterTolerance text tolerance trace
        → IsAfterTolerance (text ++ more) tolerance (trace ++ more)
    more_of None is = ap (λ l. l ++ more) is
    more_of (Some n) is = ap (λ l. l ++ more) is ∙ append_assoc (tolerance_line n) trace more

-- a line of calls and answers goes to the end
pub goes_on : (old new : Checker) (line text : List ℕ) → GoesOn old line new → new.turns ≡ old.turns
    → new.tolerance ≡ old.tolerance → (new.lines ≡ 0 → ⊥) → IsUnderway text old
    → IsUnderway (text ++ (line ++ 10 ∷ [])) new
goes_on old new line text goes turns tolerance some is = record {
  trace = is.trace ++ (line ++ 10 ∷ []);
  after = after_more old.tolerance new.tolerance text is.trace (line ++ 10 ∷ []) tolerance is.after;
  told = goes.0 is.trace is.told;
  first = λ e. absurd (some e);
  in_turn = λ e. goes.1 e (is.in_turn (sym turns ∙ e));
}

-- the first line sets the tolerance
pub sets_tolerance : (old new : Checker) (line text : List ℕ) (n : ℕ) → old.lines ≡ 0
    → line ++ 10 ∷ [] ≡ tolerance_line n → new.tolerance ≡ Some n → new.progress ≡ old.progress
    → new.turns ≡ old.turns → (new.lines ≡ 0 → ⊥) → IsUnderway text old → IsUnderway (text ++ (line ++ 10 ∷ [])) new
sets_tolerance old new line text n first says tolerance same turns some is =
    let before = is.first first in
    let none : is.trace ≡ [] =
    subst (λ t. IsAfterTolerance text t is.trace) before.1 is.after ∙ before.0 in
    record {
      trace = [];
      after = subst (λ t. IsAfterTolerance (text ++ (line ++ 10 ∷ [])) t []) (sym tolerance)
          (ap (λ l. l ++ (line ++ 10 ∷ [])) before.0 ∙ says ∙ sym (append-nil (tolerance_line n)));
      told = subst (λ p. IsTold [] p) (sym same) (subst (λ l. IsTold l old.progress) none is.told);
      first = λ e. absurd (some e);
      in_turn = λ e. ap (λ p. p.out_of_turn) same ∙ is.in_turn (sym turns ∙ e);
    }

-- a batch more
pub batch_taken : (old mid new : Option (List ℕ)) (before between after : Checker)
    → IsTakenSoFar old mid before between → IsTakenOf mid new between after → IsTakenSoFar old new before after
batch_taken old mid new before between after is more = record {
  text = is.text ++ more.text;
  taken = consumes_more old mid new is.text more.text is.taken more.taken;
  underway = more.goes_on is.text is.underway;
  turns = more.turns ∙ is.turns;
}

-- and none
pub batch_stays_taken : (a : Option (List ℕ)) (before after : Checker)
    → ((text : List ℕ) → IsUnderway text before → IsUnderway text after) → after.turns ≡ before.turns
    → IsTakenOf a a before after
batch_stays_taken a before after stays turns = record {
  text = [];
  taken = consumes_none a;
  goes_on = λ front is. subst (λ l. IsUnderway l after) (sym (append-nil front)) (stays front is);
  turns = turns;
}

pub no_batch_taken : (a : Option (List ℕ)) (c : Checker) → IsTakenOf a a c c
no_batch_taken a c = batch_stays_taken a c c (λ text is. is) refl
