use Rattle.fair_laws.proofs.Fairness.Rates.{one_number}
use Rattle.fair_laws.proofs.rates.there_is_one_number_of_rounds.Goals as goal

pub returns-clause-plain : goal.returns-clause-plain
returns-clause-plain g c first flows rate_of rounds other counted different =
    one_number counted.allocation.rates rounds other counted.different different

pub returns-clause-linked : goal.returns-clause-linked
returns-clause-linked g c first flows rate_of rounds other counted different =
    one_number counted.allocation.rates rounds other counted.different different
