use Rattle.fair_laws.proofs.Fairness.Apart.{flows_apart_are_fair}
use Rattle.fair_laws.proofs.rates.flows_apart_are_fair_alone.Goals as goal

pub returns : goal.returns
returns c = flows_apart_are_fair
