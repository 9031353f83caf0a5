use Rattle.std.proofs.Common.{map, take}
use Rattle.std.specs.List.{AllZip}
use Rattle.link_simulation.specs.Simulation.Replies.{SameCompletion}
use Rattle.link_pairs.specs.Pairs.Messages.{completed_by, ended_of}
use Rattle.link_pairs.proofs.completion.answers_of.Given as goal

abbrev pub invariant-loop-one : goal.invariant-loop-one
invariant-loop-one g l =
    AllZip (SameCompletion g.P.Ord.cmp) (map (completed_by g.M.Payload.bytes) l.answers.items) (map ended_of (take l.one-index l.ended))
