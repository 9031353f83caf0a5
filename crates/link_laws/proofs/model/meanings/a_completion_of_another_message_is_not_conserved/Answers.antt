use Rattle.link_simulation.proofs.Common.{ℕ, List, [], ◌∷◌, ◌++◌, Bool, true, false, cond, arith, AllZip, nat_cmp}
use Rattle.link_simulation.proofs.Common.{Message, SameMessage, same_pair, Completed, IsCompletionOf, new_planned}
use Rattle.link_simulation.proofs.Common.{IsConserved, of_pair, held_of}
use Rattle.link_laws.proofs.model.meanings.a_completion_of_another_message_is_not_conserved.Goals as goal
use Rattle.link_laws.specs.Examples.Rows.{arrives, message}

abbrev m : Message ℕ
m = message 1 2 1 0

-- the message whose completion that is stands for the one that was enqueued
the_same : (c : Completed ℕ) → IsConserved nat_cmp (new_planned 0) (m ∷ []) (c ∷ []) (new_planned 0)
    → (d : Message ℕ) × IsCompletionOf c d × SameMessage nat_cmp d m
the_same c h = by_done h.done h.completions_are (h.each_pair m)
  where
    first : (b : Bool) (d : Message ℕ)
        → AllZip (SameMessage nat_cmp) (cond b (d ∷ []) [] ++ held_of nat_cmp m (new_planned 0)) (m ∷ [])
        → SameMessage nat_cmp d m
    first true d all = all.0
    first false d all = absurd all

    by_done : (done : List (Message ℕ)) → AllZip IsCompletionOf (c ∷ []) done
        → AllZip (SameMessage nat_cmp) (of_pair nat_cmp m done ++ held_of nat_cmp m (new_planned 0)) (m ∷ [])
        → (d : Message ℕ) × IsCompletionOf c d × SameMessage nat_cmp d m
    by_done [] all make = absurd all
    by_done (d ∷ []) all make = (d, all.0, first (same_pair nat_cmp m d) d make)
    by_done (d ∷ e ∷ ds) all make = absurd all.1

pub returns-clause-origin : goal.returns-clause-origin
returns-clause-origin c h = grind (arith, (the_same (arrives (message 3 2 1 0) 1 1) h))

pub returns-clause-recipient : goal.returns-clause-recipient
returns-clause-recipient c h = grind (arith, (the_same (arrives (message 1 3 1 0) 1 1) h))

pub returns-clause-channel : goal.returns-clause-channel
returns-clause-channel c h = grind (arith, (the_same (arrives (record m { channel = 1 }) 1 1) h))

pub returns-clause-bytes : goal.returns-clause-bytes
returns-clause-bytes c h = grind (arith, (the_same (arrives (message 1 2 2 0) 1 1) h))
