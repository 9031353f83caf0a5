use Rattle.link_scripts.proofs.Common.{◌≡◌, ◌+◌, ◌∷◌, ◌++◌, [], take, rules, take_more}
use Rattle.link_scripts.proofs.Printing.{next_done}
use Rattle.link_scripts.proofs.linkrun.answer.print_completions.Goals as goal

pub loop-completion-preserved : goal.loop-completion-preserved
loop-completion-preserved g c =
    let done = take c.loop-completion.completion-index c.args.completions.now in
    let more : take (c.loop-completion.completion-index + 1) c.args.completions.now
    ≡ done ++ c.completion-item.result ∷ [] =
    search (rules, take_more) in
    next_done _ _ _ done _ c.completion-item.result more c.loop-completion.invariant c.in_ok-print_completion.ensures
