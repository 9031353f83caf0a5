-- What becomes of the messages of each ordered pair: none is lost and none is doubled.
use Rattle.std.specs.Prelude.{◌≡◌, List, [], ◌∷◌, ◌++◌}
use Rattle.std.specs.List.{filter, AllZip}
use Rattle.std.specs.declared.cmp.Ordering.{Ordering}
use Rattle.link_simulation.specs.Simulation.Messages.{Message, SameMessage, same_pair}
use Rattle.link_simulation.specs.Simulation.World.{Completed, goes}
use Rattle.link_simulation.specs.Simulation.Calls.{Call}
use Rattle.link_simulation.specs.Laws.PairCompletions.{enqueued, answered, IsCompletionOf}
use Rattle.link_simulation.specs.Simulation.Replies.{Reply, reply_done, reply_next, reply_refused, made, completions_in}
use Rattle.link_simulation.specs.Simulation.Replies.{SameCompletion}
use Rattle.link_simulation.specs.Rule.Planned.{Planned, rated_messages}
use Rattle.link_simulation.specs.Rule.Events.{Obeys}
use Rattle.link_simulation.specs.Laws.Orderly.{IsOrderly}

module _ {P : Type 0} (cmp : P → P → Ordering) where
  -- those of the messages that are of the pair of a message
  abbrev pub of_pair : Message P → List (Message P) → List (Message P)
  of_pair k messages = filter (same_pair cmp k) messages

  -- the messages of a pair in a planned world: what is in flight, and then what waits
  abbrev pub held_of : Message P → Planned P → List (Message P)
  held_of k p = of_pair k (rated_messages p.sending) ++ of_pair k p.waiting

  -- from the planned world p to q, with those messages enqueued, those completions came out: for each pair what is
  -- done, then what is in flight, then what waits are what was in flight, then what waited, then what was enqueued
  pub record IsConserved (p : Planned P) (messages : List (Message P)) (completions : List (Completed P))
      (q : Planned P) : Type 0 where
    pub done : List (Message P)
    pub completions_are : AllZip IsCompletionOf completions done
    pub each_pair : (k : Message P) → AllZip (SameMessage cmp) (of_pair k done ++ held_of k q)
        (held_of k p ++ of_pair k messages)

  -- by the event rule the calls that were made lead from the planned world p to the last one
  abbrev pub LeadTo : Planned P → List (Call P) → List (Reply P) → Planned P → Type 0
  LeadTo p [] [] last = p ≡ last
  LeadTo p [] (reply ∷ replies) last = ⊥
  LeadTo p (call ∷ calls) [] last = ⊥
  LeadTo p (call ∷ calls) (reply_next t ∷ replies) last = LeadTo p calls replies last
  LeadTo p (call ∷ calls) (reply_refused why ∷ replies) last = LeadTo p calls replies last
  LeadTo p (call ∷ calls) (reply_done cs ∷ replies) last =
      (ds : List (Completed P)) × (q : Planned P) × Obeys cmp p call (goes ds q) × AllZip (SameCompletion cmp) cs ds
      × LeadTo q calls replies last

  -- the calls lead from the planned world p to a last one in order, and what they enqueue is completed in the
  -- replies, in flight there, or waits there
  pub record AreConserved (p : Planned P) (calls : List (Call P)) (replies : List (Reply P)) : Type 0 where
    pub last : Planned P
    pub led : LeadTo p calls replies last
    pub orderly : IsOrderly cmp last
    pub conserved : IsConserved p (enqueued (made calls replies)) (answered (completions_in replies)) last
