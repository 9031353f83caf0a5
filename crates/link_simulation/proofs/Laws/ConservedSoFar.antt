-- Messages are conserved over the first calls of a list, however many.
use Rattle.link_simulation.proofs.Common.{arith, ℕ, zero, suc, List, [], ◌∷◌, Ordering, IsTotalOrder, Call, call_next}
use Rattle.link_simulation.proofs.Common.{Reply, reply_done, reply_next, reply_refused, Planned, new_planned, Obeyed}
use Rattle.std.proofs.Common.{take}
use Rattle.link_simulation.specs.Laws.Conserved.{AreConserved}
use Rattle.link_simulation.specs.Laws.Replies.{AlwaysSoFar}
use Rattle.link_simulation.proofs.Laws.Orderly.{new_orderly}
use Rattle.link_simulation.proofs.Laws.ConservedAlike.{obeyed_conserved}

module _ {P : Type 0} (cmp : P → P → Ordering) where
  -- the first replies follow the event rule, too
  obeyed_so_far : (n : ℕ) (p : Planned P) (calls : List (Call P)) (replies : List (Reply P))
      → Obeyed cmp p calls replies → Obeyed cmp p (take n calls) (take n replies)
  obeyed_so_far zero p calls replies obeyed = tt
  obeyed_so_far (suc n) p [] [] obeyed = tt
  obeyed_so_far (suc n) p [] (reply ∷ replies) obeyed = absurd obeyed
  obeyed_so_far (suc n) p (call ∷ calls) [] obeyed = absurd obeyed
  obeyed_so_far (suc n) p (call_next ∷ calls) (reply_next t ∷ replies) obeyed =
      (obeyed.0, obeyed_so_far n p calls replies obeyed.1)
  obeyed_so_far (suc n) p (call_next ∷ calls) (reply_done cs ∷ replies) obeyed = obeyed
  obeyed_so_far (suc n) p (call_next ∷ calls) (reply_refused why ∷ replies) obeyed = obeyed
  obeyed_so_far (suc n) p (call ∷ calls) (reply_next t ∷ replies) obeyed = obeyed
  obeyed_so_far (suc n) p (call ∷ calls) (reply_refused why ∷ replies) obeyed =
      (obeyed.0, obeyed_so_far n p calls replies obeyed.1)
  obeyed_so_far (suc n) p (call ∷ calls) (reply_done cs ∷ replies) (ds, q, obeys, same, rest) =
      (ds, q, obeys, same, obeyed_so_far n q calls replies rest)

pub conserved_so_far : {P : Type 0} (cmp : P → P → Ordering) (order : IsTotalOrder cmp) (id : ℕ) (calls : List (Call P))
    (replies : List (Reply P))
    → Obeyed cmp (new_planned id) calls replies → AlwaysSoFar (AreConserved cmp (new_planned id)) calls replies
conserved_so_far cmp order id calls replies obeyed n = grind (arith, obeyed_conserved, new_orderly, obeyed_so_far)
