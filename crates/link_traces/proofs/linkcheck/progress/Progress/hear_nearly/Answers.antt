use Rattle.link_traces.proofs.Common.{[], ◌∷◌, ◌++◌, drop, refl, sym, ◌∙◌, append_assoc}
use Rattle.link_traces.proofs.Tracing.{heard, some_is_not_none}
use Rattle.link_traces.proofs.linkcheck.progress.Progress.hear_nearly.Goals as goal

pub returns-clause-heard : goal.returns-clause-heard
returns-clause-heard c =
    λ yes said before. heard said (c.args.line.now ++ 10 ∷ []) (c.in-Some.due.now ++ 10 ∷ []) c.args.self.now _
    (record {
      scheduler = refl;
      turn = refl;
      reached = refl;
      calls = refl;
      completions = refl;
      answers = c.in-Some.ensures.due
          ∙ sym (append_assoc c.in-Some.due.now (10 ∷ []) (drop c.in-Some.after c.args.self.now.answers.items));
      exact = λ e. some_is_not_none c.max.result e;
    }) before
