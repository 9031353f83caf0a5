use Rattle.link_simulation.proofs.Common.{◌+◌, ◌<◌, ◌^◌, arith}
use Rattle.link_laws.proofs.Rule.NewInRange.{advance_in_range}
use Rattle.link_laws.proofs.model.meanings.a_call_that_leaves_the_range_is_told.Goals as goal

pub returns : goal.returns
returns c h = let past : 18_446_744_073_709_551_616 + 0 < 2 ^ 64 = (h advance_in_range).ids in absurd (omega arith)
