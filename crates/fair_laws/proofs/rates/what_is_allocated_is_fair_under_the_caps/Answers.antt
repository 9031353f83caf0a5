use Rattle.fair_laws.proofs.Common.{CalledAt, CalledAtTwo, NoLink}
use Rattle.fairness.proofs.Fairness.Allocation.{allocates_under_caps}
use Rattle.fair_laws.proofs.rates.what_is_allocated_is_fair_under_the_caps.Goals as goal

pub returns-clause-plain : goal.returns-clause-plain
returns-clause-plain g c = allocates_under_caps g.P.Ord.cmp (CalledAt g.E.FnMut) (CalledAt g.I.FnMut) NoLink

pub returns-clause-linked : goal.returns-clause-linked
returns-clause-linked g c =
    allocates_under_caps g.P.Ord.cmp (CalledAt g.E.FnMut) (CalledAt g.I.FnMut) (CalledAtTwo g.L.FnMut)
