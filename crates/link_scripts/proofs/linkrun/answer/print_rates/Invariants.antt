use Rattle.link_scripts.proofs.Common.{map, Appends, deref_pair, rates_text}
use Rattle.link_scripts.proofs.linkrun.answer.print_rates.Given as goal

-- the lines of the entries so far are printed
abbrev pub invariant-loop-id : goal.invariant-loop-id
invariant-loop-id g l =
    Appends (g.W.Write.contents l.fn.output) (g.W.Write.contents l.output) (rates_text (map deref_pair l.yielded))
