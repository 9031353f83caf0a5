use Rattle.fair_laws.proofs.Fairness.ById.{unlimited_by_id}
use Rattle.fair_laws.proofs.Fairness.Uncapped.{unlimited_where_uncapped}
use Rattle.fair_laws.proofs.rates.a_flow_without_caps_is_unlimited.Goals as goal

pub returns-clause-by_place : goal.returns-clause-by_place
returns-clause-by_place g c = unlimited_where_uncapped g.P.Ord.cmp g.met.P.Ord.total

pub returns-clause-by_id : goal.returns-clause-by_id
returns-clause-by_id g c = unlimited_by_id g.P.Ord.cmp g.met.P.Ord.total
