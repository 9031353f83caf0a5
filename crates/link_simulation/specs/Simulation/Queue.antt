-- Settling as a queue: what is done leaves in order of start, and a message that starts and is done at once joins the
-- end.
use Rattle.std.specs.Prelude.{ℕ, zero, suc, ◌+◌, List, [], ◌∷◌, ◌++◌, not, cond, Option, Some, None, nat_le}
use Rattle.std.specs.List.{filter}
use Rattle.std.specs.declared.cmp.Ordering.{Ordering}
use Rattle.fairness.specs.Lists.WithoutFirst.{without_first}
use Rattle.fairness.specs.declared.error.Error.TheVariants.{MomentTooLate, FlowIdsUsedUp}
use Rattle.link_simulation.specs.Simulation.Messages.{Message, same_pair}
use Rattle.link_simulation.specs.Simulation.World.{World, Flight, Completed, Course, goes, meets, last_moment, preceded}
use Rattle.link_simulation.specs.Simulation.World.{raised, may_start, first_waiting, is_done, arrival, is_late}
use Rattle.link_simulation.specs.Simulation.World.{completed, flight_of}

module _ {P : Type 0} (cmp : P → P → Ordering) where
  -- the messages in flight that are done, in order of start
  unfoldable pub leaving : World P → List (Flight P)
  leaving w = filter (is_done cmp w) w.sending

  -- the world without them
  unfoldable pub staying : World P → World P
  staying w = record w { sending = filter (λ f. not (is_done cmp w f)) w.sending }

  -- the world after the arrival of a message that is finished at t
  abbrev pub arrived : ℕ → World P → Message P → World P
  arrived t w m = record w { last_arrival = raised cmp w.last_arrival m (arrival cmp t m) }

  -- the world in which a message no longer waits
  abbrev pub out_of_waiting : World P → Message P → World P
  out_of_waiting w m = record w { waiting = without_first (same_pair cmp m) w.waiting; next_id = w.next_id + 1 }

  -- and in which it is in flight
  abbrev pub joined : World P → Message P → World P
  joined w m = record (out_of_waiting w m) { sending = w.sending ++ flight_of m ∷ [] }

  -- the first that waits for a pair starts if it may: if it is done at once it joins the queue's end
  unfoldable pub launch_then : (List (Flight P) → World P → Course (Completed P) (World P)) → ℕ → List (Flight P)
      → World P → Option (Message P) → Course (Completed P) (World P)
  launch_then next t queue w None = next queue w
  launch_then next t queue w (Some m) =
      cond (may_start cmp t w m)
      (cond (nat_le last_moment w.next_id) (meets FlowIdsUsedUp)
      (cond (is_done cmp w (flight_of m)) (next (queue ++ flight_of m ∷ []) (out_of_waiting w m))
      (next queue (joined w m))))
      (next queue w)

  -- the first of the queue completes, and its pair's next starts; so many complete at most
  unfoldable pub finish_within : ℕ → ℕ → List (Flight P) → World P → Course (Completed P) (World P)
  finish_within zero t queue w = goes [] w
  finish_within (suc n) t [] w = goes [] w
  finish_within (suc n) t (f ∷ queue) w =
      cond (is_late cmp t f.message) (meets MomentTooLate)
      (preceded (completed cmp t f.message ∷ [])
      (launch_then (finish_within n t) t queue (arrived t w f.message)
      (first_waiting cmp (arrived t w f.message) f.message)))
