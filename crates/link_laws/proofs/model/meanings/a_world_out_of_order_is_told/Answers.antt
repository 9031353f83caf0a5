use Rattle.link_simulation.proofs.Common.{arith, refl}
use Rattle.link_laws.proofs.model.meanings.a_world_out_of_order_is_told.Goals as goal

pub returns-clause-rate : goal.returns-clause-rate
returns-clause-rate c h = grind arith

pub returns-clause-pair : goal.returns-clause-pair
returns-clause-pair c h = cc

pub returns-clause-pair_order : goal.returns-clause-pair_order
returns-clause-pair_order c h = cc

pub returns-clause-at_first : goal.returns-clause-at_first
returns-clause-at_first c h = let clash = (h.empty_at_first refl).1 in cc

pub returns-clause-later_pair : goal.returns-clause-later_pair
returns-clause-later_pair c h = cc

pub returns-clause-later_pair_order : goal.returns-clause-later_pair_order
returns-clause-later_pair_order c h = cc
