use Rattle.link_laws.proofs.model.same.courses_that_differ_are_told.Goals as goal

pub returns-clause-completions : goal.returns-clause-completions
returns-clause-completions c same = same.0

pub returns-clause-world : goal.returns-clause-world
returns-clause-world c same = cc

pub returns-clause-fault : goal.returns-clause-fault
returns-clause-fault c same = cc

pub returns-clause-met : goal.returns-clause-met
returns-clause-met c same = same
