use Rattle.link_replay.proofs.Common.{planned_of, reply_refused, reply_of, same_itself}
use Rattle.link_scheduler.proofs.Calls.Replay.{answered_by_rule, refused_by_rule}
use Rattle.link_replay.proofs.Calls.Replay.{reply_same}
use Rattle.link_replay.proofs.replay.answer.Goals as goal

pub returns-in-Err-make-clause-reply : goal.returns-in-Err-make-clause-reply
returns-in-Err-make-clause-reply g c =
    reply_same g.P.Ord.cmp g.met.P.Ord.total (planned_of c.args.state.now)
    (planned_of c.make.new.state) (reply_refused c.in-Err-make.error)
    (same_itself g.P.Ord.cmp g.met.P.Ord.total
    (planned_of c.args.state.now) c.args.state.now.caps c.args.state.now.arrivals) c.in-Ok.ensures.same
    (refused_by_rule c.args.state.now c.make.new.state _ c.in-Err-make.error c.in-Err-make.ensures.refused
    c.in-Err-make.ensures.unchanged)

pub returns-in-Ok-make-clause-reply : goal.returns-in-Ok-make-clause-reply
returns-in-Ok-make-clause-reply g c =
    reply_same g.P.Ord.cmp g.met.P.Ord.total (planned_of c.args.state.now)
    (planned_of c.make.new.state) (reply_of c.in-Ok-make.reply)
    (same_itself g.P.Ord.cmp g.met.P.Ord.total
    (planned_of c.args.state.now) c.args.state.now.caps c.args.state.now.arrivals) c.in-Ok.ensures.same
    (answered_by_rule c.args.state.now c.make.new.state _ c.in-Ok-make.reply c.in-Ok-make.ensures.made)
