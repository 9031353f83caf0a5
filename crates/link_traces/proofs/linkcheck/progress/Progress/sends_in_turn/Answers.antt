use Rattle.link_traces.proofs.Common.{rules, ◌≡◌, None, nat_cmp_total, nat_cmp, planned_of, call_enqueue}
use Rattle.link_traces.proofs.Replying.{timely_is_in_turn}
use Rattle.link_traces.proofs.Batching.{timely_of}
use Rattle.link_traces.proofs.linkcheck.progress.Progress.sends_in_turn.Goals as goal

pub returns-clause-turn : goal.returns-clause-turn
returns-clause-turn c =
    λ yes w at stands m.
    let none : c.cause_of_change.result ≡ None = search rules in
    timely_is_in_turn nat_cmp nat_cmp_total (planned_of c.args.self.now.scheduler) w
    c.args.self.now.reached c.next.result (call_enqueue c.args.now m) c.next.ensures.next.simulated stands at
    (timely_of c.cause_of_change.result _ _ none c.cause_of_change.ensures)
