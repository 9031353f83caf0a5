use Rattle.link_simulation.proofs.Common.{arith}
use Rattle.link_laws.proofs.model.replies.a_pair_out_of_order_is_told.Goals as goal

pub returns-clause-arrivals : goal.returns-clause-arrivals
returns-clause-arrivals c h = absurd (omega arith)

pub returns-clause-messages : goal.returns-clause-messages
returns-clause-messages c h = grind arith
