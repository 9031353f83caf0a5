use Rattle.link_traces.proofs.Common.{rules, List, ℕ, refl, subst, Outgoing, zeroed_sends, AnswersEach}
use Rattle.link_traces.proofs.Batching.{sent, still_told}
use Rattle.link_traces.proofs.linkcheck.progress.Progress.send.Goals as goal

pub returns-in_default-clause-kept : goal.returns-in_default-clause-kept
returns-in_default-clause-kept c =
    λ is said told. still_told said c.args.self.now _ c.in_default.ensures.unchanged refl refl refl refl refl refl told

pub returns-clause-silent : goal.returns-clause-silent
returns-clause-silent c =
    λ is said told none. sent said c.args.self.now _ c.args.batch.now
    (record {
      in_range = c.requires.in_range;
      some = search rules;
      reply = c.in-Ok.reply;
      answered = subst
          (λ (ms : List (Outgoing ℕ ℕ)). AnswersEach (zeroed_sends c.args.batch.now.moment ms)
          c.args.self.now.scheduler c.in-Ok.reply c.send_all.new.scheduler)
          c.deref.ensures.value c.in-Ok.ensures.one_by_one;
      nothing = search rules;
      turn = c.sends_in_turn.ensures.turn (search rules);
      out_of_turn = refl;
      off = refl;
      due = refl;
      reached = refl;
      calls = search rules;
      completions = refl;
    }) told none
