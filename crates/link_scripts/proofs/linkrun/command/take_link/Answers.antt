use Rattle.link_scripts.proofs.Common.{IsCapInRange}
use Rattle.link_scripts.proofs.Columns.{takes_both, takes_one, takes_none, cap_words, takes_link}
use Rattle.link_scripts.proofs.linkrun.command.take_link.Goals as goal

pub returns-in_err-number-2 : goal.returns-in_err-number-2
returns-in_err-number-2 c =
    rw c.from_residual-in_err-number-2.ensures
    (takes_link _ (takes_one c.in_ok-number.ensures (takes_none cap_words IsCapInRange c.in_err-number-2.ensures)))

pub returns : goal.returns
returns c =
    takes_link _
    (takes_both c.in_ok-number.ensures (takes_both c.in_ok-number-2.ensures c.in_ok-cap.ensures))
