use Rattle.link_scripts.proofs.Common.{map, take, Appends, completed_of, done_text}
use Rattle.link_scripts.proofs.linkrun.answer.print_completions.Given as goal

-- the lines of the completions so far are printed
abbrev pub invariant-loop-completion : goal.invariant-loop-completion
invariant-loop-completion g l =
    Appends (g.W.Write.contents l.fn.output) (g.W.Write.contents l.output)
    (done_text (map completed_of (take l.completion-index l.completions)))
