use Rattle.link_simulation.proofs.Rule.OneMeaning.{not_refused, not_refused_in_simulation}
use Rattle.link_replay.proofs.clauses.a_call_that_is_refused_has_a_cause.Goals as goal

pub returns-clause-rule : goal.returns-clause-rule
returns-clause-rule g c p q call why cs refused obeys =
    not_refused g.P.Ord.cmp g.met.P.Ord.total p q call why cs refused.by_rule obeys

pub returns-clause-simulated : goal.returns-clause-simulated
returns-clause-simulated g c p w v call now why cs refused called runs =
    not_refused_in_simulation g.P.Ord.cmp g.met.P.Ord.total p w v call now why cs refused.simulated called runs

pub returns-clause-in_range : goal.returns-clause-in_range
returns-clause-in_range g c p call why refused within = refused.simulated.in_range within

pub returns-clause-number : goal.returns-clause-number
returns-clause-number g c p call refused = refused.by_rule
