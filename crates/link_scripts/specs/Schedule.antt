-- What a script asks of its scheduler, and what it is answered.
use Rattle.std.specs.Prelude.{ℕ, List, map, replicate}
use Rattle.link_scripts.specs.declared.linkrun.answer.Answer.{Answer}
use Rattle.link_scripts.specs.declared.linkrun.answer.Answer.TheVariants as answers
use Rattle.link_scheduler.specs.declared.call.Call as script
use Rattle.link_scheduler.specs.declared.call.Call.TheVariants as calls
use Rattle.link_scheduler.specs.declared.call.Reply.{Reply}
use Rattle.link_scheduler.specs.declared.call.Reply.TheVariants as replies
use Rattle.link_scheduler.specs.declared.transmitter.State.{State}
use Rattle.link_events.specs.declared.outgoing.Outgoing.{Outgoing}
use Rattle.link_events.specs.Steps.Outgoing.{sent}
use Rattle.link_scheduler.specs.Calls.Replay.{IsAnswered}
use Rattle.link_scheduler.specs.Calls.State.{AreMade}
use Rattle.link_simulation.specs.Simulation.Calls.{Call, call_limit, call_limit_link, call_enqueue, call_advance}
use Rattle.link_simulation.specs.Simulation.Calls.{call_enqueue_all, call_next}
use Rattle.link_simulation.specs.Simulation.Messages.{Message}

-- a message as it is sent: it has so many zero bytes
abbrev pub zeroed : Outgoing ℕ ℕ → Message ℕ
zeroed m = sent m.origin m.recipient m.channel (replicate m.message 0) m.latency m.should_deliver

-- a call as it is made of the world: its messages have so many zero bytes
abbrev pub world_call : script.Call ℕ ℕ → Call ℕ
world_call (calls.Limit now peer egress ingress) = call_limit now peer egress ingress
world_call (calls.LimitLink now origin recipient cap) = call_limit_link now origin recipient cap
world_call (calls.Enqueue now origin recipient channel length latency should_deliver) =
    call_enqueue now
    (zeroed
    (record {
      origin = origin;
      recipient = recipient;
      channel = channel;
      message = length;
      latency = latency;
      should_deliver = should_deliver;
    }))
world_call (calls.EnqueueAll now messages) = call_enqueue_all now (map zeroed messages.items)
world_call (calls.Advance now) = call_advance now
world_call calls.Next = call_next

-- the calls that send such messages at one moment, one after another
abbrev pub zeroed_sends : ℕ → List (Outgoing ℕ ℕ) → List (Call ℕ)
zeroed_sends now messages = map (λ m. call_enqueue now m) (map zeroed messages)

module _ {a : _} {b : _} {c : _} where
  -- what a scheduler of numbered peers is asked it does and answers
  abbrev pub AnswersCall : script.Call ℕ ℕ → State ℕ (List ℕ) a b c → Answer → State ℕ (List ℕ) a b c → Type 0
  AnswersCall call old (answers.Reply reply) new = IsAnswered old (world_call call) reply new
  AnswersCall call old answers.Nothing new = ⊥
  AnswersCall call old (answers.Rates rates) new = ⊥
  AnswersCall call old (answers.Routes rates) new = ⊥

  -- it does and answers all at once what those calls do and answer one after another
  abbrev pub AnswersEach : List (Call ℕ) → State ℕ (List ℕ) a b c → Reply ℕ (List ℕ) → State ℕ (List ℕ) a b c → Type 0
  AnswersEach calls old (replies.Done completions) new = AreMade old calls completions.items new
  AnswersEach calls old (replies.Next moment) new = ⊥
  AnswersEach calls old (replies.Refused why) new = ⊥
