use Rattle.link_scripts.proofs.Columns.{takes_both, takes_one, takes_none, two_caps, AreCapsIn}
use Rattle.link_scripts.proofs.Columns.{takes_limit}
use Rattle.link_scripts.proofs.linkrun.command.take_limit.Goals as goal

pub returns-in_err-number-2 : goal.returns-in_err-number-2
returns-in_err-number-2 c =
    rw c.from_residual-in_err-number-2.ensures
    (takes_limit _ (takes_one c.in_ok-number.ensures (takes_none two_caps AreCapsIn c.in_err-number-2.ensures)))

pub returns-in_err-small_cap-2 : goal.returns-in_err-small_cap-2
returns-in_err-small_cap-2 c =
    rw c.from_residual-in_err-small_cap-2.ensures
    (takes_limit _ (takes_one c.in_ok-number.ensures (takes_one c.in_ok-number-2.ensures
    (takes_one c.in_ok-small_cap.ensures c.in_err-small_cap-2.ensures))))

pub returns : goal.returns
returns c =
    takes_limit _
    (takes_both c.in_ok-number.ensures (takes_both c.in_ok-number-2.ensures
    (takes_both c.in_ok-small_cap.ensures c.in_ok-small_cap-2.ensures)))
