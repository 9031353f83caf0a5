use Rattle.link_traces.proofs.Common.{ℕ, subst, nat_cmp_total, nat_cmp, reply_of, IsReplyTo, planned_of, StandsFor}
use Rattle.link_traces.proofs.Common.{Call, IsInTurn, reply_refused, World, IsSimulatedReply}
use Rattle.link_scheduler.proofs.Calls.Replay.{refused_by_rule}
use Rattle.link_traces.proofs.Replying.{answered_is_simulated, refused_is_answered}
use Rattle.link_traces.proofs.linkcheck.progress.reply_to.Goals as goal

pub returns-in-Err-make-clause-by_rule : goal.returns-in-Err-make-clause-by_rule
returns-in-Err-make-clause-by_rule c =
    subst
    (λ (call : Call ℕ). IsReplyTo nat_cmp (planned_of c.args.scheduler.now) call (reply_refused c.in-Err-make.error)
    (planned_of c.make.new.state)) c.in-Ok.ensures.made
    (refused_by_rule c.args.scheduler.now c.make.new.state _ c.in-Err-make.error c.in-Err-make.ensures.refused
    c.in-Err-make.ensures.unchanged)

pub returns-in-Err-make-clause-simulated : goal.returns-in-Err-make-clause-simulated
returns-in-Err-make-clause-simulated c =
    subst
    (λ (call : Call ℕ). (w : World ℕ) → StandsFor nat_cmp (planned_of c.args.scheduler.now) w
    → IsInTurn nat_cmp w call
    → IsSimulatedReply nat_cmp w call (reply_refused c.in-Err-make.error) (planned_of c.make.new.state))
    c.in-Ok.ensures.made
    (λ w stands turn. refused_is_answered nat_cmp_total c.args.scheduler.now c.make.new.state w stands _
    c.in-Err-make.error c.in-Err-make.ensures.refused c.in-Err-make.ensures.unchanged turn)

pub returns-in-Ok-make-clause-simulated : goal.returns-in-Ok-make-clause-simulated
returns-in-Ok-make-clause-simulated c =
    subst
    (λ (call : Call ℕ). (w : World ℕ) → StandsFor nat_cmp (planned_of c.args.scheduler.now) w
    → IsInTurn nat_cmp w call
    → IsSimulatedReply nat_cmp w call (reply_of c.in-Ok-make.reply) (planned_of c.make.new.state))
    c.in-Ok.ensures.made
    (λ w stands turn. answered_is_simulated nat_cmp_total c.args.scheduler.now c.make.new.state w stands _
    c.in-Ok-make.reply c.in-Ok-make.ensures.made turn)
