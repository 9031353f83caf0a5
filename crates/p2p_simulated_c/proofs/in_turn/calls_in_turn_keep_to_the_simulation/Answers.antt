use Rattle.p2p_simulated_c.proofs.Turns.{opened_at_last, made_at_last, refused_at_last}
use Rattle.p2p_simulated_c.proofs.in_turn.calls_in_turn_keep_to_the_simulation.Goals as goal

pub returns-clause-opened : goal.returns-clause-opened
returns-clause-opened c = opened_at_last

pub returns-clause-made : goal.returns-clause-made
returns-clause-made c = made_at_last

pub returns-clause-refused : goal.returns-clause-refused
returns-clause-refused c = refused_at_last
