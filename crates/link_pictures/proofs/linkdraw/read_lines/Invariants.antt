use Rattle.std.proofs.Common.{◌-◌, ◌^◌}
use Rattle.link_pictures.proofs.linkdraw.read_lines.Given as goal

abbrev pub decreases-loop : goal.decreases-loop
decreases-loop g l = 2 ^ 128 - l.counter
