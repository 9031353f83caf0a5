use Rattle.link_traces.proofs.Common.{rules, ◌≡◌, [], ◌∷◌, ◌++◌, drop, refl, sym, ap, ◌∙◌, append_assoc}
use Rattle.link_traces.proofs.Tracing.{heard}
use Rattle.link_traces.proofs.linkcheck.progress.Progress.hear.Goals as goal

pub returns-clause-heard : goal.returns-clause-heard
returns-clause-heard c =
    let same : c.in-Some.due.now ≡ c.args.line.now = search rules in
    λ yes said before. heard said (c.args.line.now ++ 10 ∷ []) (c.in-Some.due.now ++ 10 ∷ []) c.args.self.now _
    (record {
      scheduler = refl;
      turn = refl;
      reached = refl;
      calls = refl;
      completions = refl;
      answers = c.in-Some.ensures.due
          ∙ sym (append_assoc c.in-Some.due.now (10 ∷ []) (drop c.in-Some.after c.args.self.now.answers.items));
      exact = λ e. (e, ap (λ l. l ++ 10 ∷ []) (sym same));
    }) before
