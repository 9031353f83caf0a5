use Rattle.link_replay.proofs.Common.{refl, sym, same_limit, same_limit_link, same_enqueue, same_enqueue_all}
use Rattle.link_replay.proofs.Common.{same_advance, same_next}
use Rattle.link_replay.proofs.copies.copy.Goals as goal
use Rattle.link_replay.proofs.copies.copy.Goals.{in-Limit+in_ok-copy_of-in-Limit}
use Rattle.link_replay.proofs.copies.copy.Goals.{in-LimitLink+in_ok-copy_of-in-LimitLink+in_ok-copy_of-in-LimitLink-2}
use Rattle.link_replay.proofs.copies.copy.Goals.{in-Enqueue+in_ok-copy_of-in-Enqueue+in_ok-copy_of-in-Enqueue-2+in_ok-share-in-Enqueue}
use Rattle.link_replay.proofs.copies.copy.Goals.{in-EnqueueAll+in_ok-copies_of-in-EnqueueAll}
use Rattle.link_replay.proofs.copies.copy.Goals.{in-Advance, in-Next}

pub returns-clause-same : goal.returns-clause-same
returns-clause-same g c = elim c.match-call.branch [
  | in-Limit+in_ok-copy_of-in-Limit w ↦ rw (w.in-Limit.is, w.result-is)
      (same_limit w.in_ok-copy_of-in-Limit.ensures.same)
  | in-LimitLink+in_ok-copy_of-in-LimitLink+in_ok-copy_of-in-LimitLink-2 w ↦ rw (w.in-LimitLink.is, w.result-is)
      (same_limit_link w.in_ok-copy_of-in-LimitLink.ensures.same w.in_ok-copy_of-in-LimitLink-2.ensures.same)
  | in-Enqueue+in_ok-copy_of-in-Enqueue+in_ok-copy_of-in-Enqueue-2+in_ok-share-in-Enqueue w ↦ rw
      (w.in-Enqueue.is, w.result-is) (same_enqueue (record {
        origin = w.in_ok-copy_of-in-Enqueue.ensures.same;
        recipient = w.in_ok-copy_of-in-Enqueue-2.ensures.same;
        channel = refl;
        bytes = sym w.in_ok-share-in-Enqueue.ensures.same;
        latency = refl;
        should_deliver = refl;
      }))
  | in-EnqueueAll+in_ok-copies_of-in-EnqueueAll w ↦ rw
      (w.in-EnqueueAll.is, w.result-is, ← w.deref.ensures.value)
      (same_enqueue_all w.in_ok-copies_of-in-EnqueueAll.ensures.same)
  | in-Advance w ↦ rw (w.in-Advance.is, w.result-is) same_advance
  | in-Next w ↦ rw (w.in-Next.is, w.result-is) same_next
]
