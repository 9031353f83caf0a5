use Rattle.std.proofs.Common.{ap, ◌∙◌, subst}
use Rattle.least_moment.specs.Moments.{NoneDue, moment_at}
use Rattle.least_moment.proofs.Coming.{told_not_come, top_is_least}
use Rattle.least_moment.proofs.moments.Moments.next_due.Goals as goal

pub returns-then-not-has_come-clause-none : goal.returns-then-not-has_come-clause-none
returns-then-not-has_come-clause-none c =
    let inside = c.self.inside in
    subst (λ moments. NoneDue moments c.args.time c.args.from) c.self.view_is
    (λ at after due. told_not_come c.has_come.result c.args.time c.moment_of.result (moment_at inside.nodes.items 1)
    c.has_come.ensures (c.moment_of.ensures ∙ ap (λ nodes. moment_at nodes 1) c.as_slice-nodes.ensures.value)
    c.if-not-has_come.true
    ((top_is_least inside.nodes.items inside.leaves c.self.invariant.least c.self.invariant.high c.args.time).0 (at, due)))
