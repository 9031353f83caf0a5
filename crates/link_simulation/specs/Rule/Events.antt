-- The event rule: what calls do to a planned world, at any moments.
use Rattle.std.specs.Prelude.{◌≡◌, ◌≢◌, ℕ, ◌+◌, ◌<◌, ◌≤◌, List, [], ◌∷◌, ◌++◌, length, true}
use Rattle.std.specs.Prelude.{false, not, ◌&&◌, cond, if◌then◌else◌, Option, Some, None, nat_lt, IfSome}
use Rattle.std.specs.List.{filter, AllZip}
use Rattle.std.specs.declared.cmp.Ordering.{Ordering}
use Rattle.fairness.specs.Lists.WithoutFirst.{without_first}
use Rattle.fairness.specs.declared.error.Error.{Error}
use Rattle.fairness.specs.declared.error.Error.TheVariants.{MomentTooLate, FlowIdsUsedUp}
use Rattle.fairness.specs.Numbers.Amount.{whole}
use Rattle.link_simulation.specs.Simulation.Messages.{Message, Caps, same_pair}
use Rattle.link_simulation.specs.Simulation.Rates.{Parts, rate_of, AreFair}
use Rattle.link_simulation.specs.Simulation.World.{Completed, completion_of, Course, goes, meets, last_moment, preceded}
use Rattle.link_simulation.specs.Simulation.World.{raised}
use Rattle.link_simulation.specs.Simulation.World.{later_of, fronts, arrival, is_late, completed}
use Rattle.link_simulation.specs.Simulation.Calls.{Call, call_limit, call_limit_link, call_enqueue, call_advance}
use Rattle.link_simulation.specs.Simulation.Calls.{call_enqueue_all, call_next}
use Rattle.link_simulation.specs.Simulation.Calls.{limited_by, linked_by}
use Rattle.link_simulation.specs.Rule.Planned.{Planned, IsLeastMoment, next_event, rated_messages, SomeSpentAt}
use Rattle.link_simulation.specs.Rule.Planned.{drained_to, next_of, queued, may_launch, SomeReadyAt, is_spent}

module _ {P : Type 0} (cmp : P → P → Ordering) where
  -- ---- the steps

  -- all that is in flight drains to t; what is done leaves in order of start, the rest gets its fair rates, and the
  -- finish is planned anew
  pub record Accounts (t : ℕ) (old : Planned P) (leavers : List (Message P)) (new : Planned P) : Type 0 where
    pub per : ℕ
    pub rates : Parts
    pub left : leavers ≡ rated_messages (filter (is_spent cmp old.caps) (drained_to t old.sending))
    pub stayed : AllZip (λ f g. (g.id ≡ f.id) × (g.message ≡ f.message) × (g.left ≡ f.left) × (g.updated ≡ t))
        (filter (λ f. not (is_spent cmp old.caps f)) (drained_to t old.sending)) new.sending
    pub fair : AreFair cmp old.caps (rated_messages new.sending) per rates
    pub rated : AllZip (λ rate f. f.rate ≡ rate_of per rate) rates new.sending
    pub finish : IsLeastMoment (SomeSpentAt new.sending) new.finish
    pub same : new ≡ record old { sending = new.sending; accounted = t; finish = new.finish }

  -- the start is planned anew: the least moment from t on at which a pair is ready
  pub record PlansStart (t : ℕ) (old new : Planned P) : Type 0 where
    pub start : IsLeastMoment (λ s. (t ≤ s) × SomeReadyAt cmp old s) new.start
    pub same : new ≡ record old { start = new.start }

  -- the message is in flight from t on, under the next flow id
  abbrev pub launched : ℕ → Planned P → Message P → Planned P
  launched t p m = record p {
    sending = p.sending ++ record {
      id = p.next_id;
      message = m;
      left = whole (length m.bytes);
      rate = Some (whole 0);
      updated = t;
    } ∷ [];
    waiting = without_first (same_pair cmp m) p.waiting;
    next_id = p.next_id + 1;
  }

  -- the first message that waits for a pair starts at t if it may, and an account follows; what is done then comes out
  pub data Launches (t : ℕ) (old : Planned P) : Option (Message P) → Course (Message P) (Planned P) → Type 0 where
    nothing_waits : Launches t old None (goes [] old)
    too_early : {m : Message P} → may_launch cmp t old m ≡ false → Launches t old (Some m) (goes [] old)
    no_id : {m : Message P} → may_launch cmp t old m ≡ true → last_moment ≤ old.next_id
        → Launches t old (Some m) (meets FlowIdsUsedUp)
    starts : {m : Message P} {leavers : List (Message P)} {new : Planned P} → may_launch cmp t old m ≡ true
        → old.next_id < last_moment → Accounts t (launched t old m) leavers new
        → Launches t old (Some m) (goes leavers new)

  -- the planned world after a message that is finished at t
  abbrev pub landed : ℕ → Planned P → Message P → Planned P
  landed t p m = record p { last_arrival = raised cmp p.last_arrival m (arrival cmp t m) }

  -- a queue of leavers completes: each is followed by the launch of its pair, whose leavers join the queue's end; at
  -- last the start is planned
  pub data Finishes (t : ℕ) : List (Message P) → Planned P → Course (Completed P) (Planned P) → Type 0 where
    all_completed : {p q : Planned P} → PlansStart t p q → Finishes t [] p (goes [] q)
    late : {m : Message P} {ms : List (Message P)} {p : Planned P} → is_late cmp t m ≡ true
        → Finishes t (m ∷ ms) p (meets MomentTooLate)
    stopped : {m : Message P} {ms : List (Message P)} {p : Planned P} {fault : Error} → is_late cmp t m ≡ false
        → Launches t (landed t p m) (next_of cmp p m) (meets fault)
        → Finishes t (m ∷ ms) p (meets fault)
    completes : {m : Message P} {ms more : List (Message P)} {p q : Planned P}
        {rest : Course (Completed P) (Planned P)} → is_late cmp t m ≡ false
        → Launches t (landed t p m) (next_of cmp p m) (goes more q) → Finishes t (ms ++ more) q rest
        → Finishes t (m ∷ ms) p (preceded (completed cmp t m ∷ []) rest)

  -- those pairs start, each with its finishes; at last the start is planned
  pub data WakesEach (t : ℕ) : List (Message P) → Planned P → Course (Completed P) (Planned P) → Type 0 where
    all_started : {p q : Planned P} → PlansStart t p q → WakesEach t [] p (goes [] q)
    no_start : {m : Message P} {ms : List (Message P)} {p : Planned P} {fault : Error}
        → Launches t p (next_of cmp p m) (meets fault) → WakesEach t (m ∷ ms) p (meets fault)
    no_finish : {m : Message P} {ms more : List (Message P)} {p q : Planned P} {fault : Error}
        → Launches t p (next_of cmp p m) (goes more q) → Finishes t more q (meets fault)
        → WakesEach t (m ∷ ms) p (meets fault)
    starts_one : {m : Message P} {ms more : List (Message P)} {p q r : Planned P} {cs : List (Completed P)}
        {rest : Course (Completed P) (Planned P)}
        → Launches t p (next_of cmp p m) (goes more q) → Finishes t more q (goes cs r) → WakesEach t ms r rest
        → WakesEach t (m ∷ ms) p (preceded cs rest)

  -- the pairs that are found ready at t start, in the order of pairs
  abbrev pub Wakes : ℕ → Planned P → Course (Completed P) (Planned P) → Type 0
  Wakes t p course = WakesEach t (filter (may_launch cmp t p) (fronts cmp p.waiting)) p course

  -- an account, and the finishes of what left
  pub data Settles (t : ℕ) (old : Planned P) (course : Course (Completed P) (Planned P)) : Type 0 where
    settling : {leavers : List (Message P)} {mid : Planned P} → Accounts t old leavers mid
        → Finishes t leavers mid course → Settles t old course

  -- ---- the calls

  -- new caps: what is in flight is accounted for anew, and where nothing is, the start is planned anew
  pub data Rebalances (now : ℕ) (caps : Caps P) (old : Planned P) : Course (Completed P) (Planned P) → Type 0 where
    none_sending : {new : Planned P} → old.sending ≡ []
        → PlansStart now (record old { caps = caps; limited = true }) new
        → Rebalances now caps old (goes [] new)
    some_sending : {course : Course (Completed P) (Planned P)} → old.sending ≢ []
        → Settles now (record old { caps = caps; limited = true }) course → Rebalances now caps old course

  -- before any limit, a message completes as it is enqueued
  abbrev pub completed_at_once : ℕ → Planned P → Message P → Course (Completed P) (Planned P)
  completed_at_once now p m =
      let wanted = m.should_deliver in
      let at = if wanted then later_of (p.last_arrival m.origin m.recipient) (now + m.latency) else now in
      cond (wanted && nat_lt last_moment (now + m.latency)) (meets MomentTooLate)
      (goes (completion_of m now (if wanted then Some at else None) ∷ [])
      (record p { last_arrival = raised cmp p.last_arrival m at }))

  -- the planned world in which the message waits
  abbrev pub with_queued : Planned P → Message P → Planned P
  with_queued p m = record p { waiting = queued cmp m p.waiting }

  -- under limits, a message joins those that wait, and its pair's first one starts if it may
  pub data Enqueues (now : ℕ) (m : Message P) (old : Planned P) : Course (Completed P) (Planned P) → Type 0 where
    at_once : old.limited ≡ false → Enqueues now m old (completed_at_once now old m)
    no_launch : {fault : Error} → old.limited ≡ true
        → Launches now (with_queued old m) (next_of cmp (with_queued old m) m) (meets fault)
        → Enqueues now m old (meets fault)
    launches : {leavers : List (Message P)} {mid : Planned P} {course : Course (Completed P) (Planned P)}
        → old.limited ≡ true
        → Launches now (with_queued old m) (next_of cmp (with_queued old m) m) (goes leavers mid)
        → Finishes now leavers mid course → Enqueues now m old course

  -- messages are enqueued one after another, up to the first that meets a fault
  pub data EnqueuesEach (now : ℕ) : List (Message P) → Planned P → Course (Completed P) (Planned P) → Type 0 where
    all_enqueued : {p : Planned P} → EnqueuesEach now [] p (goes [] p)
    one_stops : {m : Message P} {ms : List (Message P)} {p : Planned P} {fault : Error}
        → Enqueues now m p (meets fault) → EnqueuesEach now (m ∷ ms) p (meets fault)
    enqueues_one : {m : Message P} {ms : List (Message P)} {p q : Planned P} {cs : List (Completed P)}
        {rest : Course (Completed P) (Planned P)}
        → Enqueues now m p (goes cs q) → EnqueuesEach now ms q rest
        → EnqueuesEach now (m ∷ ms) p (preceded cs rest)

  -- the events up to now, the finish before the start at one moment, and how many they are; a wake at now ends them
  pub data Advances (now : ℕ) : Planned P → ℕ → Course (Completed P) (Planned P) → Type 0 where
    no_more : {p : Planned P} {course : Course (Completed P) (Planned P)} → IfSome (next_event p) (λ t. now < t)
        → Wakes now p course → Advances now p 0 course
    at_finish : {p q : Planned P} {t n : ℕ} {cs : List (Completed P)} {rest : Course (Completed P) (Planned P)}
        → p.finish ≡ Some t → next_event p ≡ Some t → t ≤ now
        → Settles t (record p { finish = None }) (goes cs q) → Advances now q n rest
        → Advances now p (n + 1) (preceded cs rest)
    at_start : {p q : Planned P} {t n : ℕ} {cs : List (Completed P)} {rest : Course (Completed P) (Planned P)}
        → p.finish ≢ Some t → next_event p ≡ Some t → t ≤ now
        → Wakes t (record p { start = None }) (goes cs q) → Advances now q n rest
        → Advances now p (n + 1) (preceded cs rest)
    finish_stops : {p : Planned P} {t : ℕ} {fault : Error} → p.finish ≡ Some t → next_event p ≡ Some t → t ≤ now
        → Settles t (record p { finish = None }) (meets fault) → Advances now p 1 (meets fault)
    start_stops : {p : Planned P} {t : ℕ} {fault : Error} → p.finish ≢ Some t → next_event p ≡ Some t → t ≤ now
        → Wakes t (record p { start = None }) (meets fault) → Advances now p 1 (meets fault)

  -- the course of a call
  abbrev pub Obeys : Planned P → Call P → Course (Completed P) (Planned P) → Type 0
  Obeys p (call_limit now peer egress ingress) course = Rebalances now
      (limited_by cmp p.caps peer egress ingress) p course
  Obeys p (call_limit_link now origin recipient cap) course =
      Rebalances now (linked_by cmp p.caps origin recipient cap) p course
  Obeys p (call_enqueue now m) course = Enqueues now m p course
  Obeys p (call_enqueue_all now ms) course = EnqueuesEach now ms p course
  Obeys p (call_advance now) course = (n : ℕ) × Advances now p n course
  Obeys p call_next course = course ≡ goes [] p
