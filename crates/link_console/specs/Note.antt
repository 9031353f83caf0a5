-- What a note says.
use Rattle.std.specs.Prelude.{ℕ, ◌<◌}
use Rattle.link_console.specs.declared.note.Note.{Note}

-- it has some text
abbrev pub HasText : Note → Type 0
HasText note = 0 < note.length
