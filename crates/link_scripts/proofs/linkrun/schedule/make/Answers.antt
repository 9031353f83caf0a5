use Rattle.link_scripts.proofs.Common.{ℕ, IfOk, IfErr, subst, MayRefuseCall, Call}
use Rattle.link_scheduler.specs.Calls.Replay.{IsAnswered}
use Rattle.link_scripts.proofs.linkrun.schedule.make.Goals as goal

pub returns-clause-answer : goal.returns-clause-answer
returns-clause-answer c =
    subst (λ (call : Call ℕ). IfOk c.make.result (λ reply. IsAnswered c.args.scheduler.now call reply c.make.new.state))
    c.in_ok-call.ensures.made c.make.ensures.made

pub returns-clause-refused : goal.returns-clause-refused
returns-clause-refused c =
    subst (λ (call : Call ℕ). IfErr c.make.result (MayRefuseCall c.args.scheduler.now call))
    c.in_ok-call.ensures.made c.make.ensures.refused
