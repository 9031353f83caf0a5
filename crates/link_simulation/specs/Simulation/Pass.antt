-- What one pair's turn does to the others, and going once through the pairs that may start.
use Rattle.std.specs.Prelude.{⊤, ◌≡◌, ℕ, List, [], ◌∷◌, true, false, cond, Some}
use Rattle.std.specs.List.{filter, find}
use Rattle.std.specs.declared.cmp.Ordering.{Ordering}
use Rattle.link_simulation.specs.Simulation.Messages.{Message, same_pair, pair_before}
use Rattle.link_simulation.specs.Simulation.World.{World, Flight, Completed, Course, goes, and_then, turn, may_start}
use Rattle.link_simulation.specs.Simulation.World.{first_waiting}

module _ {P : Type 0} (cmp : P → P → Ordering) where
  -- what a pair sees of a world does not change
  pub record IsUnchangedFor (k : Message P) (w v : World P) : Type 0 where
    pub ready : (t : ℕ) (x : Message P) → same_pair cmp k x ≡ true → may_start cmp t v x ≡ may_start cmp t w x
    pub last_arrival : v.last_arrival k.origin k.recipient ≡ w.last_arrival k.origin k.recipient
    pub waiting : filter (same_pair cmp k) v.waiting ≡ filter (same_pair cmp k) w.waiting
    pub first : first_waiting cmp v k ≡ first_waiting cmp w k
    pub sending : filter (λ (f : Flight P). same_pair cmp k f.message) v.sending
        ≡ filter (λ (f : Flight P). same_pair cmp k f.message) w.sending

  -- no message waits first for the pair that may start at t
  abbrev pub MayNotStart : ℕ → Message P → World P → Type 0
  MayNotStart t m v = (x : Message P) → find (same_pair cmp m) v.waiting ≡ Some x → may_start cmp t v x ≡ false

  -- those messages have their turns, one after the other
  abbrev pub wake_each : ℕ → List (Message P) → World P → Course (Completed P) (World P)
  wake_each t [] w = goes [] w
  wake_each t (m ∷ ms) w = and_then (turn cmp t w m) (wake_each t ms)

  -- the message where it belongs in the order of pairs
  abbrev pub insert_by_pair : Message P → List (Message P) → List (Message P)
  insert_by_pair m [] = m ∷ []
  insert_by_pair m (n ∷ ns) = cond (pair_before cmp n m) (n ∷ insert_by_pair m ns) (m ∷ n ∷ ns)

  -- messages in the order of their pairs
  abbrev pub by_pair : List (Message P) → List (Message P)
  by_pair [] = []
  by_pair (m ∷ ms) = insert_by_pair m (by_pair ms)

  -- the pair of the message comes before those of the list
  abbrev pub IsBeforeEach : Message P → List (Message P) → Type 0
  IsBeforeEach m [] = ⊤
  IsBeforeEach m (n ∷ ns) = (pair_before cmp m n ≡ true) × IsBeforeEach m ns

  -- each pair comes before the later ones
  abbrev pub IsByPair : List (Message P) → Type 0
  IsByPair [] = ⊤
  IsByPair (m ∷ ms) = IsBeforeEach m ms × IsByPair ms
