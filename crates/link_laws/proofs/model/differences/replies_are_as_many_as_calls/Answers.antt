use Rattle.link_laws.proofs.model.differences.replies_are_as_many_as_calls.Goals as goal

pub returns-clause-more : goal.returns-clause-more
returns-clause-more c agrees = agrees

pub returns-clause-fewer : goal.returns-clause-fewer
returns-clause-fewer c agrees = agrees
