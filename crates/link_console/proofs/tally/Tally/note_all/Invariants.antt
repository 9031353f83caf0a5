use Rattle.std.proofs.Common.{◌≡◌, length}
use Rattle.link_console.proofs.tally.Tally.note_all.Given as goal

abbrev pub invariant-loop-byte : goal.invariant-loop-byte
invariant-loop-byte g l = l.self.output ≡ l.initial.self.output

abbrev pub decreases-loop-byte : goal.decreases-loop-byte
decreases-loop-byte g l = length l.rest
