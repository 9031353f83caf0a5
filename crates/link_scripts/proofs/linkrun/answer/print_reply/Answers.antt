use Rattle.link_scripts.proofs.Common.{ap, sym, subst, ◌∙◌, map, Appends, completed_of, reply_of, done_text, reply_text}
use Rattle.std.proofs.lemmas.Result.{on_ok_weaker}
use Rattle.link_scripts.proofs.linkrun.answer.print_reply.Goals as goal

pub returns-in-Done : goal.returns-in-Done
returns-in-Done g c =
    let text =
    ap (λ l. done_text (map completed_of l)) c.deref.ensures.value
    ∙ sym (ap (λ r. reply_text (reply_of r)) c.in-Done.is) in
    on_ok_weaker c.print_completions.result
    (subst (Appends (g.W.Write.contents c.args.output.now) (g.W.Write.contents c.print_completions.new.output)) text)
    c.print_completions.ensures
