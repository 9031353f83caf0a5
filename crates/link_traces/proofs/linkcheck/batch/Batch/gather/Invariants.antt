use Rattle.link_traces.proofs.Common.{All, IsCallOfScriptInRange, batch_calls, IsFront}
use Rattle.link_traces.proofs.linkcheck.batch.Batch.gather.Given as goal

-- what is gathered stands in front, and is in range
abbrev pub invariant-loop : goal.invariant-loop
invariant-loop l =
    record {
      front : IsFront l.self l.ahead;
      in_range : All IsCallOfScriptInRange (batch_calls l.self);
    }
