use Rattle.std.proofs.Common.{◌≤◌}
use Rattle.link_console.proofs.note.Note.put_escaped.Given as goal

abbrev pub invariant-loop-part : goal.invariant-loop-part
invariant-loop-part l = l.fn.self.length ≤ l.self.length

abbrev pub invariant-loop-byte : goal.invariant-loop-byte
invariant-loop-byte l = l.fn.self.length ≤ l.self.length
