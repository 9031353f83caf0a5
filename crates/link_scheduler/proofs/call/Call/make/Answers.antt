use Rattle.link_scheduler.proofs.call.Call.make.Goals as goal
use Rattle.link_scheduler.proofs.call.Call.make.Goals.{in-Limit+in_ok-completions-in-Limit}
use Rattle.link_scheduler.proofs.call.Call.make.Goals.{in-LimitLink+in_ok-completions-in-LimitLink}
use Rattle.link_scheduler.proofs.call.Call.make.Goals.{in-Enqueue+in_ok-completions-in-Enqueue}
use Rattle.link_scheduler.proofs.call.Call.make.Goals.{in-EnqueueAll+in_ok-completions-in-EnqueueAll}
use Rattle.link_scheduler.proofs.call.Call.make.Goals.{in-Advance+in_ok-completions-in-Advance}

pub returns-clause-made : goal.returns-clause-made
returns-clause-made g c = elim c.match-self.branch [
  | in-Limit+in_ok-completions-in-Limit w ↦ rw (w.in-Limit.is, w.state-is, w.completions-is)
      w.in_ok-completions-in-Limit.ensures.made
  | in-LimitLink+in_ok-completions-in-LimitLink w ↦ rw (w.in-LimitLink.is, w.state-is, w.completions-is)
      w.in_ok-completions-in-LimitLink.ensures.made
  | in-Enqueue+in_ok-completions-in-Enqueue w ↦ rw (w.in-Enqueue.is, w.state-is, w.completions-is)
      w.in_ok-completions-in-Enqueue.ensures.made
  | in-EnqueueAll+in_ok-completions-in-EnqueueAll w ↦ rw (w.in-EnqueueAll.is, w.state-is, w.completions-is)
      w.in_ok-completions-in-EnqueueAll.ensures.as_one
  | in-Advance+in_ok-completions-in-Advance w ↦ rw (w.in-Advance.is, w.state-is, w.completions-is)
      w.in_ok-completions-in-Advance.ensures.made
]
