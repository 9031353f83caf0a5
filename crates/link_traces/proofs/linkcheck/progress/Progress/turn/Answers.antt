use Rattle.link_traces.proofs.Common.{nat_cmp_total, nat_cmp, planned_of, world_call}
use Rattle.link_traces.proofs.Replying.{timely_is_in_turn}
use Rattle.link_traces.proofs.linkcheck.progress.Progress.turn.Goals as goal

pub returns-in_err-cause-clause-turn : goal.returns-in_err-cause-clause-turn
returns-in_err-cause-clause-turn c =
    λ is w at stands. timely_is_in_turn nat_cmp nat_cmp_total (planned_of c.args.self.now.scheduler) w
    c.args.self.now.reached c.next.result (world_call c.args.call.now) c.next.ensures.next.simulated stands at
    c.in_err-cause.ensures
