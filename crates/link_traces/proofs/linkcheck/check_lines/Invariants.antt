use Rattle.link_traces.proofs.Common.{reader_remaining}
use Rattle.link_traces.proofs.Tracing.{IsTakenSoFar}
use Rattle.link_traces.proofs.linkcheck.check_lines.Given as goal

-- what was taken so far agrees
abbrev pub invariant-loop : goal.invariant-loop
invariant-loop g l =
    IsTakenSoFar (reader_remaining g.R.Read.remaining l.initial.input) (reader_remaining g.R.Read.remaining l.input)
    l.initial.checker l.checker
