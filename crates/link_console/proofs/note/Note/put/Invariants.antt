use Rattle.std.proofs.Common.{◌<◌, ◌≤◌}
use Rattle.link_console.specs.Note.{HasText}
use Rattle.link_console.proofs.note.Note.put.Given as goal

abbrev pub invariant-loop-byte : goal.invariant-loop-byte
invariant-loop-byte l = record {
  grows : l.initial.self.length ≤ l.self.length;
  some : 0 < l.byte-index → HasText l.self;
}
