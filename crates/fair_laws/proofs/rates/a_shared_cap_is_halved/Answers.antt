use Rattle.fair_laws.proofs.Fairness.Example.{half_exists, halves_are_fair, less_is_unfair, more_is_unfair}
use Rattle.fair_laws.proofs.Fairness.Example.{no_limit_is_unfair, limit_is_unfair}
use Rattle.fair_laws.proofs.rates.a_shared_cap_is_halved.Goals as goal

pub returns-clause-half : goal.returns-clause-half
returns-clause-half c = half_exists

pub returns-clause-halves : goal.returns-clause-halves
returns-clause-halves c = halves_are_fair

pub returns-clause-less : goal.returns-clause-less
returns-clause-less c = less_is_unfair

pub returns-clause-more : goal.returns-clause-more
returns-clause-more c = more_is_unfair

pub returns-clause-no_limit : goal.returns-clause-no_limit
returns-clause-no_limit c = no_limit_is_unfair

pub returns-clause-limit : goal.returns-clause-limit
returns-clause-limit c = limit_is_unfair
