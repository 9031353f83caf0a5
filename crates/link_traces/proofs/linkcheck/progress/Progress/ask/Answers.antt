use Rattle.link_traces.proofs.Common.{refl, ap, ◌∙◌, ◌++◌, reply_of, reply_text}
use Rattle.link_traces.proofs.Tracing.{asked}
use Rattle.link_traces.proofs.linkcheck.progress.Progress.ask.Goals as goal

pub returns-in-Ok : goal.returns-in-Ok
returns-in-Ok c =
    let reply = reply_of c.reply_to-reply.result in
    λ said before none. asked said c.args.self.now _ c.args.call.now reply
    (record {
      in_range = c.requires;
      by_rule = c.reply_to-reply.ensures.by_rule;
      simulated = c.reply_to-reply.ensures.simulated;
      turn = λ e. (c.turn-self.ensures.before e, c.turn-self.ensures.turn e);
      off = refl;
      answers = c.in-Ok.ensures ∙ ap (λ l. l ++ reply_text reply) c.clear.ensures.items;
      reached = c.reached_after-self.ensures;
      calls = c.in_ok-self.ensures.calls;
      completions = c.in_ok-self.ensures.completions;
    }) before none
