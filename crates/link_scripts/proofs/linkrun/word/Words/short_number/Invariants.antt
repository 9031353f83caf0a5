use Rattle.link_scripts.proofs.Common.{◌≡◌, parts_of}
use Rattle.link_scripts.specs.Words.{words_left}
use Rattle.link_scripts.proofs.Digits.{AreRead}
use Rattle.link_scripts.proofs.linkrun.word.Words.short_number.Given as goal

-- the digits so far are read, and no word is taken
abbrev pub invariant-loop-at : goal.invariant-loop-at
invariant-loop-at l = AreRead l.line l.at l.number × (words_left l.self ≡ parts_of l.line)
