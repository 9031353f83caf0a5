-- Replies by the event rule have no refusal for a number.
use Rattle.link_simulation.proofs.Common.{arith, List, [], ◌∷◌, Contains, ⊤, Ordering, All-contains, OutOfMemory}
use Rattle.link_simulation.proofs.Common.{NumberTooLarge, MomentTooLate, FlowIdsUsedUp, Call, Reply, reply_done}
use Rattle.link_simulation.proofs.Common.{reply_next, reply_refused, Planned, Obeyed, Each, all_of_each}
use Rattle.link_simulation.proofs.Rule.Stepwise.{obeyed_next, obeyed_done}

IsNoNumber : {P : Type 0} → Reply P → Type 0
IsNoNumber (reply_done cs) = ⊤
IsNoNumber (reply_next next) = ⊤
IsNoNumber (reply_refused OutOfMemory) = ⊤
IsNoNumber (reply_refused NumberTooLarge) = ⊥
IsNoNumber (reply_refused MomentTooLate) = ⊤
IsNoNumber (reply_refused FlowIdsUsedUp) = ⊤

module _ {P : Type 0} (cmp : P → P → Ordering) where
  none_for_a_number : (p : Planned P) (calls : List (Call P)) (replies : List (Reply P)) → Obeyed cmp p calls replies
      → Each IsNoNumber replies
  unfolding IsNoNumber
  none_for_a_number p [] [] obeyed = tt
  none_for_a_number p [] (reply ∷ replies) obeyed = absurd obeyed
  none_for_a_number p (call ∷ calls) [] obeyed = absurd obeyed
  none_for_a_number p (call ∷ calls) (reply_next next ∷ replies) obeyed =
      (tt, none_for_a_number p calls replies (obeyed_next cmp p calls replies call next obeyed))
  none_for_a_number p (call ∷ calls) (reply_refused why ∷ replies) obeyed =
      grind (arith, (none_for_a_number p calls replies))
  none_for_a_number p (call ∷ calls) (reply_done cs ∷ replies) obeyed =
      grind (
        arith,
        (none_for_a_number (obeyed_done cmp p calls replies call cs obeyed).1 calls replies
            (obeyed_done cmp p calls replies call cs obeyed).4),
      )

  pub never_for_a_number : (p : Planned P) (calls : List (Call P)) (replies : List (Reply P))
      → Obeyed cmp p calls replies → ¬ Contains replies (reply_refused NumberTooLarge)
  unfolding IsNoNumber
  never_for_a_number p calls replies obeyed has = grind (arith, All-contains, all_of_each, none_for_a_number)
