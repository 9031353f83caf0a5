-- A message that is done after a time is done alone, however the simulation runs.
use Rattle.link_simulation.proofs.Common.{◌≡◌, ℕ, ◌+◌, List, [], ◌∷◌, Option, Some, sym, subst, Ordering, IsTotalOrder}
use Rattle.link_simulation.proofs.Common.{World, Completed, goes, completed, call_enqueue, call_advance, Runs, Message}
use Rattle.link_simulation.proofs.Common.{NextIs, IsSound, arith}
use Rattle.link_simulation.specs.Laws.Alone.{IsDoneAfter}
use Rattle.link_simulation.proofs.Simulation.OneNext.{next_is_one}
use Rattle.link_simulation.proofs.Simulation.OneRun.{runs_are_one}
use Rattle.link_simulation.proofs.Simulation.Sound.{call_keeps_sound}

module _ {P : Type 0} (cmp : P → P → Ordering) (order : IsTotalOrder cmp) where
  -- where two courses go and are one, they answer the same and lead to the same world
  same_answers : (cs ds : List (Completed P)) (v u : World P) → goes cs v ≡ goes ds u → cs ≡ ds
  same_answers cs ds v u one = cc

  same_world : (cs ds : List (Completed P)) (v u : World P) → goes cs v ≡ goes ds u → v ≡ u
  same_world cs ds v u one = cc

  pub is_sent : (w v : World P) (m : Message P) (now time : ℕ) (cs : List (Completed P)) → IsSound cmp w
      → IsDoneAfter cmp w now m time → Runs cmp w (call_enqueue now m) now (goes cs v)
      → (cs ≡ []) × ((next : Option ℕ) → NextIs cmp v next → next ≡ Some (now + time))
  is_sent w v m now time cs sound alone runs =
      let one = runs_are_one cmp order w _ now _ _ sound runs alone.sends in
      let same = same_world cs [] v alone.sent one in
      let sound_v = call_keeps_sound cmp order w (call_enqueue now m) now (goes cs v) sound runs in
      grind (arith, next_is_one, (same_answers cs [] v alone.sent one))

  pub is_done_alone : (w v u : World P) (m : Message P) (now time : ℕ) (cs ds : List (Completed P)) → IsSound cmp w
      → IsDoneAfter cmp w now m time → Runs cmp w (call_enqueue now m) now (goes cs v)
      → Runs cmp v (call_advance (now + time)) (now + time) (goes ds u) → ds ≡ completed cmp (now + time) m ∷ []
  is_done_alone w v u m now time cs ds sound alone runs advances =
      let one = runs_are_one cmp order w _ now _ _ sound runs alone.sends in
      let same : v ≡ alone.sent = same_world cs [] v alone.sent one in
      let sound_v : IsSound cmp v = call_keeps_sound cmp order w (call_enqueue now m) now (goes cs v) sound runs in
      same_answers ds _ u alone.after (runs_are_one cmp order v _ _ _ _ sound_v advances
      (subst (λ (x : World P). Runs cmp x _ _ (goes _ alone.after)) (sym same) alone.done))
