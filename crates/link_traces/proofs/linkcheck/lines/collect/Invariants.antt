use Rattle.link_traces.proofs.Common.{Consumes}
use Rattle.link_traces.proofs.linkcheck.lines.collect.Given as goal

-- what was collected was taken
abbrev pub invariant-loop : goal.invariant-loop
invariant-loop g l = Consumes (g.R.Read.remaining l.initial.input) (g.R.Read.remaining l.input) l.line.items
