use Rattle.link_simulation.proofs.Rule.OneCourse.{advance_is_one}
use Rattle.link_replay.proofs.clauses.an_advance_counts_its_events.Goals as goal

pub returns-clause-counted : goal.returns-clause-counted
returns-clause-counted g c q now events other ds counted goes =
    (advance_is_one g.P.Ord.cmp g.met.P.Ord.total counted.by_rule.advances other _ goes.advances).0

pub returns-clause-few : goal.returns-clause-few
returns-clause-few g c now events counted = counted.few
