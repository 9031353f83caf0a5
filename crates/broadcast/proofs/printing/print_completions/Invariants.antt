use Rattle.std.proofs.Common.{take}
use Rattle.std.specs.Io.KnownBytes.{Appends}
use Rattle.broadcast.specs.Lines.{done_text}
use Rattle.broadcast.proofs.printing.print_completions.Given as goal

-- the lines of the completions so far are printed
abbrev pub invariant-loop-completion : goal.invariant-loop-completion
invariant-loop-completion g l =
    Appends (g.W.Write.contents l.fn.output) (g.W.Write.contents l.output)
    (done_text (take l.completion-index l.completions))
