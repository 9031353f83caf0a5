use Rattle.std.proofs.Common.{take}
use Rattle.std.specs.List.{AllZip}
use Rattle.broadcast.specs.Links.{IsVoteOver}
use Rattle.broadcast.proofs.workload.Workload.votes.Given as goal

-- the votes so far, each over its link
abbrev pub invariant-loop-link : goal.invariant-loop-link
invariant-loop-link l = AllZip (IsVoteOver l.leader) (take l.link-index l.link-items) l.votes.items
