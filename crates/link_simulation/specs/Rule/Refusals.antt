-- Refusals by the event rule, and the replies that follow it.
use Rattle.std.specs.Prelude.{◌≡◌, ⊤, List, [], ◌∷◌}
use Rattle.std.specs.List.{AllZip}
use Rattle.std.specs.declared.cmp.Ordering.{Ordering}
use Rattle.fairness.specs.declared.error.Error.{Error}
use Rattle.link_simulation.specs.Simulation.RefusalCauses.{IsRefusedFor}
use Rattle.link_simulation.specs.Simulation.World.{Completed, goes, meets}
use Rattle.link_simulation.specs.Simulation.Calls.{Call, call_next}
use Rattle.link_simulation.specs.Simulation.Replies.{Reply, reply_done, reply_next, reply_refused, SameCompletion}
use Rattle.link_simulation.specs.Rule.Planned.{Planned, next_event}
use Rattle.link_simulation.specs.Rule.Events.{Obeys}

module _ {P : Type 0} (cmp : P → P → Ordering) where
  -- when a call on a planned world may be refused: for memory, or for a fault that its course meets
  abbrev pub MayBeRefused : Planned P → Call P → Error → Type 0
  MayBeRefused p call why = IsRefusedFor (λ fault. Obeys cmp p call (meets fault)) why

  -- the replies are those of the event rule, call by call, at any moments; a refused call leaves the planned world as
  -- it was
  abbrev pub Obeyed : Planned P → List (Call P) → List (Reply P) → Type 0
  Obeyed p [] [] = ⊤
  Obeyed p [] (reply ∷ replies) = ⊥
  Obeyed p (call ∷ calls) [] = ⊥
  Obeyed p (call_next ∷ calls) (reply_next t ∷ replies) = (t ≡ next_event p) × Obeyed p calls replies
  Obeyed p (call_next ∷ calls) (reply_done cs ∷ replies) = ⊥
  Obeyed p (call_next ∷ calls) (reply_refused why ∷ replies) = ⊥
  Obeyed p (call ∷ calls) (reply_next t ∷ replies) = ⊥
  Obeyed p (call ∷ calls) (reply_refused why ∷ replies) = MayBeRefused p call why × Obeyed p calls replies
  Obeyed p (call ∷ calls) (reply_done cs ∷ replies) =
      (ds : List (Completed P)) × (q : Planned P) × Obeys cmp p call (goes ds q) × AllZip (SameCompletion cmp) cs ds
      × Obeyed q calls replies
