use Rattle.row_table.proofs.Common.{common_steps, All, arith, IsLeft}
use Rattle.row_table.proofs.Leaving.{length_emptied, emptied_append, left_popped, left_within}
use Rattle.row_table.proofs.slot_list.Slots.pop.Given as given
use Rattle.row_table.proofs.slot_list.Slots.pop.Goals as goal

pub pop-requires : goal.pop-requires
pop-requires g c = grind (arith, common_steps, length_emptied)

module _ (g : given.Over) (c : goal.After-pop g) where
  still_left : All (IsLeft c.pop.new.self) c.self.inside.left.items
  still_left = grind (arith, common_steps, left_popped)

pub invariant_of-self : goal.invariant_of-self
invariant_of-self g c = still_left g c

pub returns-clause-item : goal.returns-clause-item
returns-clause-item g c = grind (arith, common_steps, emptied_append, left_within, still_left)
