use Rattle.fair_laws.proofs.Fairness.ById.{others_do_not_matter}
use Rattle.fair_laws.proofs.Fairness.Part.{part_is_fair}
use Rattle.fair_laws.proofs.rates.a_part_is_fair_alone.Goals as goal

pub returns-clause-by_place : goal.returns-clause-by_place
returns-clause-by_place g c = part_is_fair g.P.Ord.cmp g.met.P.Ord.total

pub returns-clause-by_id : goal.returns-clause-by_id
returns-clause-by_id g c = others_do_not_matter g.P.Ord.cmp g.met.P.Ord.total
