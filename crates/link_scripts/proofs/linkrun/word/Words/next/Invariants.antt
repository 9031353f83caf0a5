use Rattle.link_scripts.proofs.Common.{take}
use Rattle.link_scripts.proofs.Splitting.{LackSpaces}
use Rattle.link_scripts.proofs.linkrun.word.Words.next.Given as goal

-- no space so far
abbrev pub invariant-loop-at : goal.invariant-loop-at
invariant-loop-at l = LackSpaces (take l.at l.rest)
