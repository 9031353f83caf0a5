use Rattle.link_laws.proofs.model.same.courses_that_are_not_alike_are_told.Goals as goal

pub returns-clause-completions : goal.returns-clause-completions
returns-clause-completions c alike = alike.0

pub returns-clause-world : goal.returns-clause-world
returns-clause-world c alike = cc

pub returns-clause-fault : goal.returns-clause-fault
returns-clause-fault c alike = cc

pub returns-clause-met : goal.returns-clause-met
returns-clause-met c alike = alike
