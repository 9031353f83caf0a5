use Rattle.link_scripts.proofs.Common.{ℕ, List, subst, Outgoing, gathered_calls, zeroed_sends, AnswersEach}
use Rattle.link_scripts.proofs.InTurn.{sent_and_printed, prints_from}
use Rattle.link_scripts.proofs.Saying.{says_same_on}
use Rattle.link_scripts.proofs.linkrun.gathered.Gathered.send.Goals as goal
use Rattle.link_scripts.proofs.linkrun.gathered.Gathered.send.Goals.{then-len-gt1+in_default, else-len-gt1}

pub returns-in-Ok-clause-printed : goal.returns-in-Ok-clause-printed
returns-in-Ok-clause-printed g c =
    sent_and_printed c.args.session.now c.send_all.new.self (g.W.Write.contents c.args.output.now)
    (g.W.Write.contents c.print_reply.new.output) c.args.self.now.moment c.args.self.now.messages.items c.in-Ok.reply
    c.print_reply.result
    (subst
    (λ (ms : List (Outgoing ℕ ℕ)). AnswersEach (zeroed_sends c.args.self.now.moment ms) c.args.session.now.scheduler
    c.in-Ok.reply c.send_all.new.self.scheduler)
    c.deref.ensures.value c.in-Ok.ensures.one_by_one)
    c.print_reply.ensures

pub returns-clause-printed : goal.returns-clause-printed
returns-clause-printed g c = elim c.if-len-gt1.branch [
  | then-len-gt1+in_default w ↦
      prints_from w.send_all.new.self c.send_each.new.session (g.W.Write.contents c.args.output.now)
      (g.W.Write.contents c.send_each.new.output) c.args.session.now (gathered_calls c.args.self.now)
      w.in_default.ensures.kept (rw w.session-is at c.in_ok-send_each.ensures.printed)
  | else-len-gt1 w ↦ rw w.session-is at c.in_ok-send_each.ensures.printed
]

pub returns-in-Ok-clause-said : goal.returns-in-Ok-clause-said
returns-in-Ok-clause-said g c = c.send_all.ensures.said

pub returns-in_err-send_each-clause-said : goal.returns-in_err-send_each-clause-said
returns-in_err-send_each-clause-said g c = elim c.if-len-gt1.branch [
  | then-len-gt1+in_default w ↦
      says_same_on c.args.session.now w.send_all.new.self c.send_each.new.session w.send_all.ensures.said
      (rw w.session-is at c.send_each.ensures.said)
  | else-len-gt1 w ↦ rw w.session-is at c.send_each.ensures.said
]

pub returns-clause-said : goal.returns-clause-said
returns-clause-said g c = elim c.if-len-gt1.branch [
  | then-len-gt1+in_default w ↦
      says_same_on c.args.session.now w.send_all.new.self c.send_each.new.session w.send_all.ensures.said
      (rw w.session-is at c.send_each.ensures.said)
  | else-len-gt1 w ↦ rw w.session-is at c.send_each.ensures.said
]
