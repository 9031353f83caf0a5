use Rattle.link_replay.proofs.Common.{map, vec_capacity, vec_len, new_planned, planned_of, call_of, reply_of}
use Rattle.link_replay.proofs.Calls.Replay.{IsUnderway}
use Rattle.link_replay.proofs.replay.replay.Given as goal

abbrev pub invariant-loop-call : goal.invariant-loop-call
invariant-loop-call g l =
    IsUnderway g.P.Ord.cmp g.met.P.Ord.total (new_planned 0) (map call_of l.calls) l.call-index
    (map reply_of l.replies.items) (vec_len l.replies) (vec_capacity l.replies) (planned_of l.state)
