use Rattle.link_simulation.proofs.Common.{arith, ◌≡◌, ℕ, List, [], ◌∷◌, ◌++◌, Bool, true, false, cond, AllZip, nat_cmp}
use Rattle.link_simulation.proofs.Common.{Message, SameMessage, same_pair, IsCompletionOf, new_planned}
use Rattle.link_simulation.proofs.Common.{of_pair, held_of}
use Rattle.link_laws.proofs.model.orderly.a_lost_message_is_not_conserved.Goals as goal
use Rattle.link_laws.specs.Examples.Rows.{arrives, message}

abbrev m : Message ℕ
m = message 1 2 1 0

-- those that are done make, with the empty world, the messages of the pair
abbrev Make : List (Message ℕ) → List (Message ℕ) → Type 0
Make done messages = AllZip (SameMessage nat_cmp) (of_pair nat_cmp m done ++ held_of nat_cmp m (new_planned 0)) messages

-- what completes as the message does is of its pair
of_its_pair : (d : Message ℕ) → IsCompletionOf (arrives m 1 1) d → same_pair nat_cmp m d ≡ true
of_its_pair d (t, at, is) = grind arith

too_many : (d : Message ℕ) (ds : List (Message ℕ)) → same_pair nat_cmp m d ≡ true → Make (d ∷ ds) [] → ⊥
too_many d ds is make = grind arith

pub returns-clause-lost : goal.returns-clause-lost
returns-clause-lost c h = by_done h.done h.completions_are (h.each_pair m)
  where
    by_done : (done : List (Message ℕ)) → AllZip IsCompletionOf [] done → Make done (m ∷ []) → ⊥
    by_done [] all make = make
    by_done (d ∷ ds) all make = all

pub returns-clause-made_up : goal.returns-clause-made_up
returns-clause-made_up c h = by_done h.done h.completions_are (h.each_pair m)
  where
    by_done : (done : List (Message ℕ)) → AllZip IsCompletionOf (arrives m 1 1 ∷ []) done → Make done [] → ⊥
    by_done [] all make = all
    by_done (d ∷ ds) all make = too_many d ds (of_its_pair d all.0) make

pub returns-clause-doubled : goal.returns-clause-doubled
returns-clause-doubled c h = by_done h.done h.completions_are (h.each_pair m)
  where
    one_more : (b : Bool) (d : Message ℕ) (ds : List (Message ℕ)) → b ≡ true
        → AllZip (SameMessage nat_cmp) (cond b (d ∷ of_pair nat_cmp m ds) (of_pair nat_cmp m ds) ++ held_of nat_cmp m
        (new_planned 0)) (m ∷ []) → Make ds []
    one_more true d ds is all = all.1
    one_more false d ds is all = cc

    by_done : (done : List (Message ℕ)) → AllZip IsCompletionOf (arrives m 1 1 ∷ arrives m 1 1 ∷ []) done
        → Make done (m ∷ []) → ⊥
    by_done [] all make = all
    by_done (d ∷ []) all make = all.1
    by_done (d ∷ e ∷ ds) all make = grind (arith, too_many, of_its_pair, one_more)
