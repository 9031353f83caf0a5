use Rattle.link_simulation.proofs.Common.{arith}
use Rattle.link_laws.proofs.model.runs.completions_out_of_order_are_told.Goals as goal

pub returns-clause-arrivals : goal.returns-clause-arrivals
returns-clause-arrivals c h = absurd (omega arith)

pub returns-clause-later : goal.returns-clause-later
returns-clause-later c h = absurd (omega arith)

pub returns-clause-across : goal.returns-clause-across
returns-clause-across c h = absurd (omega arith)

pub returns-clause-messages : goal.returns-clause-messages
returns-clause-messages c h = grind arith
