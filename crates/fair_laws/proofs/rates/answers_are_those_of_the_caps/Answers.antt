use Rattle.fair_laws.proofs.Common.{CalledAt, CalledAtTwo, NoLink}
use Rattle.fairness.proofs.Sides.Answers.{answers_are_those_of_the_caps}
use Rattle.fair_laws.proofs.rates.answers_are_those_of_the_caps.Goals as goal

pub returns-clause-plain : goal.returns-clause-plain
returns-clause-plain g c = answers_are_those_of_the_caps (CalledAt g.E.FnMut) (CalledAt g.I.FnMut) NoLink

pub returns-clause-linked : goal.returns-clause-linked
returns-clause-linked g c =
    answers_are_those_of_the_caps (CalledAt g.E.FnMut) (CalledAt g.I.FnMut) (CalledAtTwo g.L.FnMut)
