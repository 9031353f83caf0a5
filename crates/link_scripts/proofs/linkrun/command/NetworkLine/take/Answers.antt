use Rattle.link_scripts.proofs.Common.{rules}
use Rattle.link_scripts.proofs.Columns.{takes_both, takes_one, takes_hop, takes_weighing}
use Rattle.link_scripts.proofs.linkrun.command.NetworkLine.take.Goals as goal

pub returns-in_err-number-in-hop-2 : goal.returns-in_err-number-in-hop-2
returns-in_err-number-in-hop-2 c =
    rw c.from_residual-in_err-number-in-hop-2.ensures
    (takes_hop (search rules) _ (takes_one c.in_ok-number-in-hop.ensures c.in_err-number-in-hop-2.ensures))

pub returns-in_ok-number-in-hop-2 : goal.returns-in_ok-number-in-hop-2
returns-in_ok-number-in-hop-2 c =
    takes_hop (search rules) _ (takes_both c.in_ok-number-in-hop.ensures c.in_ok-number-in-hop-2.ensures)

pub returns-in_ok-weight-in-weight : goal.returns-in_ok-weight-in-weight
returns-in_ok-weight-in-weight c =
    takes_weighing (search rules) _ (takes_both c.in_ok-number-in-weight.ensures c.in_ok-weight-in-weight.ensures)
