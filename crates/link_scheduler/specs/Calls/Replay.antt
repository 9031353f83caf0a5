-- How calls and their replies are read, and when a scheduler answers so.
use Rattle.std.specs.Prelude.{◌≡◌, ℕ, List, map}
use Rattle.std.specs.declared.cmp.Ord.{Ghosts}
use Rattle.std.specs.declared.cmp.Ordering.{Ordering}
use Rattle.link_scheduler.specs.declared.call.Call as call_code
use Rattle.link_scheduler.specs.declared.call.Call.TheVariants as calls
use Rattle.link_scheduler.specs.declared.call.Reply as reply_code
use Rattle.link_scheduler.specs.declared.call.Reply.TheVariants as replies
use Rattle.link_scheduler.specs.declared.transmitter.State.{State}
use Rattle.fairness.specs.declared.error.Error.{Error}
use Rattle.link_scheduler.specs.Calls.State.{IsMadeBy, IsRefused, IsNextOf}
use Rattle.link_events.specs.Steps.Outgoing.{outgoing_by}
use Rattle.link_pairs.specs.Pairs.Messages.{completed_by}
use Rattle.link_simulation.specs.Simulation.Calls.{Call, call_limit, call_limit_link, call_enqueue, call_advance}
use Rattle.link_simulation.specs.Simulation.Calls.{call_enqueue_all, call_next}
use Rattle.link_simulation.specs.Simulation.Replies.{Reply, reply_done, reply_next, reply_refused}
use Rattle.link_simulation.specs.Rule.Planned.{Planned, next_event}
use Rattle.link_simulation.specs.Rule.Refusals.{MayBeRefused}
use Rattle.link_simulation.specs.Rule.SamePlanned.{GoesByRule}

-- a call as it is made of the world, where what it has of messages stands for those bytes
abbrev pub call_by : {P M : Type 0} → (M → List ℕ) → call_code.Call P M → Call P
call_by bytes (calls.Limit now peer egress ingress) = call_limit now peer egress ingress
call_by bytes (calls.LimitLink now origin recipient cap) = call_limit_link now origin recipient cap
call_by bytes (calls.Enqueue now origin recipient channel message latency should_deliver) = call_enqueue now
    (record {
      origin = origin;
      recipient = recipient;
      channel = channel;
      bytes = bytes message;
      latency = latency;
      should_deliver = should_deliver;
    })
call_by bytes (calls.EnqueueAll now messages) = call_enqueue_all now (map (outgoing_by bytes) messages.items)
call_by bytes (calls.Advance now) = call_advance now
call_by bytes calls.Next = call_next

-- and where it has the bytes
abbrev pub call_of : {P : Type 0} → call_code.Call P (List ℕ) → Call P
call_of call = call_by (λ bytes. bytes) call

-- a reply as it is given, where what comes back of messages stands for those bytes
abbrev pub reply_by : {P M : Type 0} → (M → List ℕ) → reply_code.Reply P M → Reply P
reply_by bytes (replies.Done completions) = reply_done (map (completed_by bytes) completions.items)
reply_by bytes (replies.Next moment) = reply_next moment
reply_by bytes (replies.Refused why) = reply_refused why

-- and where the bytes come back
abbrev pub reply_of : {P : Type 0} → reply_code.Reply P (List ℕ) → Reply P
reply_of reply = reply_by (λ bytes. bytes) reply

module _ {P : Type 0} (cmp : P → P → Ordering) where
  -- the call on the planned world p has that reply by the event rule, and leads to q; a refused call leads nowhere
  abbrev pub IsReplyTo : Planned P → Call P → Reply P → Planned P → Type 0
  IsReplyTo p call_next (reply_next moment) q = (moment ≡ next_event p) × (q ≡ p)
  IsReplyTo p call_next (reply_done cs) q = ⊥
  IsReplyTo p call_next (reply_refused why) q = ⊥
  IsReplyTo p call (reply_done cs) q = GoesByRule cmp p call cs q
  IsReplyTo p call (reply_refused why) q = MayBeRefused cmp p call why × (q ≡ p)
  IsReplyTo p call (reply_next moment) q = ⊥

module _ {P M : Type 0} {order : Ghosts P} {b : _} {c : _} where
  -- a scheduler is asked a call and answers so: the next event changes nothing, and any other call is made. What comes
  -- back of messages stands for those bytes
  abbrev pub IsAnsweredBy : (M → List ℕ) → State P M order b c → Call P → reply_code.Reply P M → State P M order b c
      → Type 0
  IsAnsweredBy bytes old call_next (replies.Next moment) new = IsNextOf old moment × (new ≡ old)
  IsAnsweredBy bytes old call_next (replies.Done completions) new = ⊥
  IsAnsweredBy bytes old call_next (replies.Refused why) new = ⊥
  IsAnsweredBy bytes old call (replies.Done completions) new = IsMadeBy bytes old call completions.items new
  IsAnsweredBy bytes old call (replies.Next moment) new = ⊥
  IsAnsweredBy bytes old call (replies.Refused why) new = ⊥

  -- it may refuse the call so; the next event is always answered
  abbrev pub MayRefuseCall : State P M order b c → Call P → Error → Type 0
  MayRefuseCall s call_next why = ⊥
  MayRefuseCall s call why = IsRefused s call why

module _ {P : Type 0} {order : Ghosts P} {b : _} {c : _} where
  -- a scheduler whose messages are bytes is asked a call and answers so
  abbrev pub IsAnswered : State P (List ℕ) order b c → Call P → reply_code.Reply P (List ℕ)
      → State P (List ℕ) order b c → Type 0
  IsAnswered old call reply new = IsAnsweredBy (λ bytes. bytes) old call reply new
