use Rattle.link_scripts.proofs.Common.{IsSmallCapInRange, number_word, IsNumberInRange}
use Rattle.link_scripts.proofs.Columns.{takes_both, takes_one, takes_none, cap_words, word_then, AreIn}
use Rattle.link_scripts.proofs.Columns.{takes_limit_link}
use Rattle.link_scripts.proofs.linkrun.command.take_limit_link.Goals as goal

pub returns-in_err-number-2 : goal.returns-in_err-number-2
returns-in_err-number-2 c =
    rw c.from_residual-in_err-number-2.ensures
    (takes_limit_link _ (takes_one c.in_ok-number.ensures
    (takes_none (word_then number_word cap_words) (AreIn IsNumberInRange IsSmallCapInRange)
    c.in_err-number-2.ensures)))

pub returns-in_err-number-3 : goal.returns-in_err-number-3
returns-in_err-number-3 c =
    rw c.from_residual-in_err-number-3.ensures
    (takes_limit_link _ (takes_one c.in_ok-number.ensures (takes_one c.in_ok-number-2.ensures
    (takes_none cap_words IsSmallCapInRange c.in_err-number-3.ensures))))

pub returns : goal.returns
returns c =
    takes_limit_link _
    (takes_both c.in_ok-number.ensures (takes_both c.in_ok-number-2.ensures
    (takes_both c.in_ok-number-3.ensures c.in_ok-small_cap.ensures)))
