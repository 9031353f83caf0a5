use Rattle.std.proofs.Common.{◌∙◌}
use Rattle.fairness.proofs.Lists.Sorted.{is_eq_equal}
use Rattle.fairness.proofs.Sides.Subjects.{peer_sym}
use Rattle.link_pairs.proofs.completion.Completion+P.clone.Goals as goal

pub returns-clause-origin : goal.returns-clause-origin
returns-clause-origin g c =
    is_eq_equal _ (peer_sym g.P.Ord.cmp g.met.P.Ord.total _ c.args.self.now.origin ∙ c.in_ok-origin.ensures.origin)

pub returns-clause-recipient : goal.returns-clause-recipient
returns-clause-recipient g c =
    is_eq_equal _ (peer_sym g.P.Ord.cmp g.met.P.Ord.total _ c.args.self.now.recipient ∙ c.in_ok-origin.ensures.recipient)
