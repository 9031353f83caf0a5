use Rattle.fair_laws.proofs.Common.{CalledAt, CalledAtTwo, NoLink}
use Rattle.fair_laws.proofs.Refusals.NoFairRates.{too_large_has_no_rates}
use Rattle.fairness.proofs.Fairness.AnswersUnderCaps.{too_large_under_caps}
use Rattle.fair_laws.proofs.rates.what_is_too_large_has_no_rates.Goals as goal

pub returns-clause-plain : goal.returns-clause-plain
returns-clause-plain g c caps first flows by large =
    too_large_under_caps g.P.Ord.cmp (CalledAt g.E.FnMut) (CalledAt g.I.FnMut) NoLink first flows large caps by

pub returns-clause-linked : goal.returns-clause-linked
returns-clause-linked g c caps first flows by large =
    too_large_under_caps g.P.Ord.cmp (CalledAt g.E.FnMut) (CalledAt g.I.FnMut) (CalledAtTwo g.L.FnMut) first flows large
    caps by

pub returns-clause-never : goal.returns-clause-never
returns-clause-never g c = too_large_has_no_rates g.P.Ord.cmp g.met.P.Ord.total
