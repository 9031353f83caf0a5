use Rattle.link_scripts.proofs.Common.{take, Appends, rates_text}
use Rattle.link_scripts.proofs.linkrun.answer.print_each.Given as goal

-- the lines of the rates so far are printed
abbrev pub invariant-loop-flow : goal.invariant-loop-flow
invariant-loop-flow g l =
    Appends (g.W.Write.contents l.fn.output) (g.W.Write.contents l.output) (rates_text (take l.flow-index l.rates))
