use Rattle.link_scripts.proofs.Common.{◌-◌, ◌^◌}
use Rattle.link_scripts.proofs.linkrun.run_lines.Given as goal

abbrev pub decreases-loop : goal.decreases-loop
decreases-loop g l = 2 ^ 128 - l.counter
