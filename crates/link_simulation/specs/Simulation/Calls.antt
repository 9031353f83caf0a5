-- Calls on the world of the simulation.
use Rattle.std.specs.Prelude.{◌≡◌, ⊤, ℕ, ◌+◌, ◌-◌, ◌<◌, ◌≤◌, List, [], ◌∷◌, ◌++◌, true, ◌&&◌}
use Rattle.std.specs.Prelude.{cond, if◌then◌else◌, Option, Some, None, nat_lt, IfSome}
use Rattle.std.specs.declared.cmp.Ordering.{Ordering}
use Rattle.fairness.specs.declared.error.Error.TheVariants.{MomentTooLate}
use Rattle.link_simulation.specs.Simulation.Messages.{Message, Caps, with_cap, with_link}
use Rattle.link_simulation.specs.Simulation.World.{World, Completed, completion_of, Course, goes, meets, last_moment}
use Rattle.link_simulation.specs.Simulation.World.{and_then}
use Rattle.link_simulation.specs.Simulation.World.{raised, later_of, settle, start_next, first_waiting}
use Rattle.link_simulation.specs.Simulation.Time.{Ticks, NextIs}

-- what can be asked of the world, each at a moment but for the last
pub data Call (P : Type 0) : Type 0 where
  call_limit : (now : ℕ) → (peer : P) → (egress ingress : Option ℕ) → Call P
  call_limit_link : (now : ℕ) → (origin recipient : P) → (cap : Option ℕ) → Call P
  call_enqueue : (now : ℕ) → Message P → Call P
  call_enqueue_all : (now : ℕ) → List (Message P) → Call P
  call_advance : (now : ℕ) → Call P
  call_next : Call P

-- the moment of a call, if it has one
abbrev pub moment_of : {P : Type 0} → Call P → Option ℕ
moment_of (call_limit now peer egress ingress) = Some now
moment_of (call_limit_link now origin recipient cap) = Some now
moment_of (call_enqueue now m) = Some now
moment_of (call_enqueue_all now ms) = Some now
moment_of (call_advance now) = Some now
moment_of call_next = None

module _ {P : Type 0} (cmp : P → P → Ordering) where
  -- the caps with new ones for a peer
  abbrev pub limited_by : Caps P → P → Option ℕ → Option ℕ → Caps P
  limited_by caps peer egress ingress =
      record caps { egress = with_cap cmp caps.egress peer egress; ingress = with_cap cmp caps.ingress peer ingress }

  -- the caps with a new one for an ordered pair
  abbrev pub linked_by : Caps P → P → P → Option ℕ → Caps P
  linked_by caps origin recipient cap = record caps { link = with_link cmp caps.link origin recipient cap }

  -- before any limit a message completes as it is enqueued, and arrives no earlier than the pair's last one
  abbrev pub complete_at_once : ℕ → World P → Message P → Course (Completed P) (World P)
  complete_at_once now w m =
      let wanted = m.should_deliver in
      let at = if wanted then later_of (w.last_arrival m.origin m.recipient) (now + m.latency) else now in
      cond (wanted && nat_lt last_moment (now + m.latency)) (meets MomentTooLate)
      (goes (completion_of m now (if wanted then Some at else None) ∷ [])
      (record w { last_arrival = raised cmp w.last_arrival m at }))

  -- new caps from now on: the unlimited mode ends, and what is done under them completes
  abbrev pub rebalance : ℕ → World P → Caps P → Course (Completed P) (World P)
  rebalance now w caps = settle cmp now (record w { caps = caps; limited = true })

  -- a message waits behind the others, its pair's first one starts if it may, and what is done completes
  abbrev pub join : ℕ → World P → Message P → Course (Completed P) (World P)
  join now w m =
      let queued : World P = record w { waiting = w.waiting ++ m ∷ [] } in
      and_then (start_next cmp now queued (first_waiting cmp queued m)) (settle cmp now)

  -- a message is sent
  abbrev pub enqueue : ℕ → World P → Message P → Course (Completed P) (World P)
  enqueue now w m = cond w.limited (join now w m) (complete_at_once now w m)

  -- messages are sent one after another, up to the first that meets a fault
  abbrev pub enqueue_each : ℕ → World P → List (Message P) → Course (Completed P) (World P)
  enqueue_each now w [] = goes [] w
  enqueue_each now w (m ∷ ms) = and_then (enqueue now w m) (λ v. enqueue_each now v ms)

  -- what a call does, once its moment has come
  abbrev pub act : World P → Call P → Course (Completed P) (World P)
  act w (call_limit now peer egress ingress) = rebalance now w (limited_by w.caps peer egress ingress)
  act w (call_limit_link now origin recipient cap) = rebalance now w (linked_by w.caps origin recipient cap)
  act w (call_enqueue now m) = enqueue now w m
  act w (call_enqueue_all now ms) = enqueue_each now w ms
  act w (call_advance now) = goes [] w
  act w call_next = goes [] w

  -- the course of a call at a moment: it ticks to the moment, and then acts
  pub record Runs (w : World P) (call : Call P) (now : ℕ) (course : Course (Completed P) (World P)) : Type 0 where
    pub ticked : Course (Completed P) (World P)
    pub ticks : Ticks cmp (now - w.moment) w ticked
    pub acts : course ≡ and_then ticked (λ v. act v call)

  -- the world's next event is none or later than that moment
  abbrev pub IsBeforeNext : ℕ → World P → Type 0
  IsBeforeNext now w = (next : Option ℕ) → NextIs cmp w next → IfSome next (λ t. now < t)

  -- a call comes no earlier than the one before it, and one that changes caps or adds messages comes before the next
  -- event
  abbrev pub IsInTurn : World P → Call P → Type 0
  IsInTurn w (call_limit now peer egress ingress) = (w.moment ≤ now) × IsBeforeNext now w
  IsInTurn w (call_limit_link now origin recipient cap) = (w.moment ≤ now) × IsBeforeNext now w
  IsInTurn w (call_enqueue now m) = (w.moment ≤ now) × IsBeforeNext now w
  IsInTurn w (call_enqueue_all now ms) = (w.moment ≤ now) × IsBeforeNext now w
  IsInTurn w (call_advance now) = w.moment ≤ now
  IsInTurn w call_next = ⊤
