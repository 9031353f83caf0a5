use Rattle.link_simulation.proofs.Common.{arith}
use Rattle.link_laws.proofs.model.replies.calls_may_go_by_next.Goals as goal

pub returns-clause-others : goal.returns-clause-others
returns-clause-others c = grind arith

pub returns-clause-limits : goal.returns-clause-limits
returns-clause-limits c = grind arith
