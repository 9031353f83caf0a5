-- How time goes by in the simulation, nanosecond by nanosecond, and when its next event comes.
use Rattle.std.specs.Prelude.{⊤, ◌≡◌, ℕ, zero, suc, ◌+◌, ◌-◌, ◌<◌, ◌≤◌, List, [], ◌∷◌, false, Option}
use Rattle.std.specs.Prelude.{Some, None}
use Rattle.std.specs.declared.cmp.Ordering.{Ordering}
use Rattle.fairness.specs.declared.error.Error.{Error}
use Rattle.link_simulation.specs.Simulation.Messages.{CapsAlike, PairsAlike, OneForEachPair}
use Rattle.link_simulation.specs.Simulation.Rates.{Parts, rate_of, drained_by, AreFair}
use Rattle.link_simulation.specs.Simulation.World.{World, Flight, Completed, Course, goes, meets, last_moment, preceded}
use Rattle.link_simulation.specs.Simulation.World.{flows}
use Rattle.link_simulation.specs.Simulation.World.{instant, IsQuiet}

-- each message in flight drains for n nanoseconds at its rate
abbrev pub drain_each : {P : Type 0} → ℕ → Parts → ℕ → List (Flight P) → List (Flight P)
drain_each per rates n [] = []
drain_each per [] n (f ∷ fs) = f ∷ fs
drain_each per (rate ∷ rates) n (f ∷ fs) =
    record { message = f.message; left = drained_by (rate_of per rate) n f.left } ∷ drain_each per rates n fs

-- the world n nanoseconds on, if nothing completes or starts
abbrev pub drifted : {P : Type 0} → World P → ℕ → Parts → ℕ → World P
drifted w per rates n = record w { sending = drain_each per rates n w.sending; moment = w.moment + n }

-- each amount left is over a number above zero
abbrev pub ArePositive : {P : Type 0} → List (Flight P) → Type 0
ArePositive [] = ⊤
ArePositive (f ∷ fs) = (0 < f.left.den) × ArePositive fs

module _ {P : Type 0} (cmp : P → P → Ordering) where
  -- the next nanosecond, before anything completes or starts: each message in flight has drained at its fair rate
  pub record Drains (old new : World P) : Type 0 where
    pub per : ℕ
    pub rates : Parts
    pub fair : AreFair cmp old.caps (flows old) per rates
    pub world : new ≡ drifted old per rates 1

  -- n nanoseconds go by: in each, all drains, what is done completes, and what may start starts
  pub data Ticks : ℕ → World P → Course (Completed P) (World P) → Type 0 where
    no_tick : {w : World P} → Ticks zero w (goes [] w)
    one_tick : {n : ℕ} {w v u : World P} {cs : List (Completed P)} {rest : Course (Completed P) (World P)}
        → Drains w v → instant cmp v ≡ goes cs u → Ticks n u rest → Ticks (suc n) w (preceded cs rest)
    tick_faults : {n : ℕ} {w v : World P} {fault : Error} → Drains w v → instant cmp v ≡ meets fault
        → Ticks (suc n) w (meets fault)

  -- a course and then n more nanoseconds, if it goes
  abbrev pub Continues : ℕ → Course (Completed P) (World P) → Course (Completed P) (World P) → Type 0
  Continues n (goes cs v) course =
      (rest : Course (Completed P) (World P)) × Ticks n v rest × (course ≡ preceded cs rest)
  Continues n (meets fault) course = course ≡ meets fault

  -- n nanoseconds go by in which nothing completes or starts
  pub data Passes : ℕ → World P → World P → Type 0 where
    no_time : {w : World P} → Passes zero w w
    quiet_tick : {n : ℕ} {w v u : World P} → Drains w v → IsQuiet cmp v.moment v → Passes n v u → Passes (suc n) w u

  -- the next event, at which something completes or starts, comes at that moment, or never
  pub data NextIs (w : World P) : Option ℕ → Type 0 where
    never_comes : {v : World P} → Passes (last_moment - w.moment) w v → NextIs w None
    comes_next : {n : ℕ} {v u : World P} → Passes n w v → Drains v u → ¬ IsQuiet cmp u.moment u
        → u.moment ≤ last_moment → NextIs w (Some u.moment)

  -- what holds of each world that calls lead to, and of each on the way there
  pub record IsSound (w : World P) : Type 0 where
    pub caps : CapsAlike cmp w.caps w.caps
    pub last_arrival : PairsAlike cmp w.last_arrival w.last_arrival
    pub positive : ArePositive w.sending
    pub one_each : OneForEachPair cmp (flows w)
    pub empty_at_first : w.limited ≡ false → (w.sending ≡ []) × (w.waiting ≡ [])
