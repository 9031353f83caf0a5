use Rattle.link_traces.proofs.Common.{rules, ◌≡◌, Some}
use Rattle.link_scripts.specs.declared.linkrun.command.Command.TheVariants as commands
use Rattle.link_traces.proofs.linkcheck.asked.call.Goals as goal

pub returns-in-Some-Schedule : goal.returns-in-Some-Schedule
returns-in-Some-Schedule c =
    let says : c.parse.result ≡ Some (commands.Schedule c.in-Some-Schedule.call) = search rules in
    (c.parse.ensures (commands.Schedule c.in-Some-Schedule.call)).0 says
