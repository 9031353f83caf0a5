use Rattle.link_laws.proofs.model.differences.a_reply_of_another_kind_does_not_agree.Goals as goal

pub returns-clause-next_done : goal.returns-clause-next_done
returns-clause-next_done c agrees = agrees

pub returns-clause-next_refused : goal.returns-clause-next_refused
returns-clause-next_refused c agrees = agrees

pub returns-clause-call_next : goal.returns-clause-call_next
returns-clause-call_next c agrees = agrees
