use Rattle.link_waiting.proofs.Common.{◌-◌, ◌<◌, length, IfSome, AllZip, unwrap_or, IsDue, NamesPairOf, live, due_below}
use Rattle.link_waiting.proofs.slots.Slots.due.Given as goal

abbrev pub invariant-loop-next : goal.invariant-loop-next
invariant-loop-next g l = record {
  within : IfSome l.next (λ at. at < length l.self.moments);
  there : IfSome l.next (IsDue l.self.moments l.now);
  named : AllZip (λ key waiter. NamesPairOf g.P.Ord.cmp key waiter.message) l.due.items
      (due_below l.now l.self.moments (unwrap_or l.next (length l.self.moments)) (live l.self.slots.items));
}

abbrev pub decreases-loop-next : goal.decreases-loop-next
decreases-loop-next g l = length l.self.moments - unwrap_or l.next (length l.self.moments)
