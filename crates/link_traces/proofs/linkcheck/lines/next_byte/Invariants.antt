use Rattle.link_traces.proofs.Common.{Keeps}
use Rattle.link_traces.proofs.linkcheck.lines.next_byte.Given as goal

-- a read that was interrupted took nothing
abbrev pub invariant-loop : goal.invariant-loop
invariant-loop g l = Keeps (g.R.Read.remaining l.initial.input) (g.R.Read.remaining l.input)
