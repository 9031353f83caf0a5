-- The world of the simulation, and what happens in it at one instant.
use Rattle.std.specs.Prelude.{⊤, ◌≡◌, ℕ, zero, suc, ◌+◌, max, List, [], ◌∷◌, ◌++◌, length, map, Bool, true, false}
use Rattle.std.specs.Prelude.{not, ◌&&◌, ◌||◌, cond, if◌then◌else◌, Option, Some, None, nat_lt, nat_le, ◌==◌}
use Rattle.std.specs.List.{filter, find, list_any}
use Rattle.std.specs.declared.cmp.Ordering.{Ordering}
use Rattle.fairness.specs.Lists.WithoutFirst.{without_first}
use Rattle.fairness.specs.declared.error.Error.{Error}
use Rattle.fairness.specs.declared.error.Error.TheVariants.{MomentTooLate, FlowIdsUsedUp}
use Rattle.fairness.specs.Numbers.Amount.{Amount, whole}
use Rattle.fairness.specs.Sides.Subjects.{same_peer}
use Rattle.link_simulation.specs.Simulation.Messages.{Message, Caps, no_caps, same_pair, pair_before, is_delivered}
use Rattle.link_simulation.specs.Simulation.Rates.{is_unlimited}

-- a message in flight, and what is left of it
pub record Flight (P : Type 0) : Type 0 where
  pub message : Message P
  pub left : Amount

-- a message as it starts
abbrev pub flight_of : {P : Type 0} → Message P → Flight P
flight_of m = record { message = m; left = whole (length m.bytes) }

-- what is answered of a message that is done, the moment at which all of it was sent, and the one at which it arrives, if
-- it does
pub record Completed (P : Type 0) : Type 0 where
  pub origin : P
  pub recipient : P
  pub channel : ℕ
  pub bytes : List ℕ
  pub done_at : ℕ
  pub deliver_at : Option ℕ

-- the completion of a message: when it is done, and when it arrives, if it does
abbrev pub completion_of : {P : Type 0} → Message P → ℕ → Option ℕ → Completed P
completion_of m done_at deliver_at = record {
  origin = m.origin;
  recipient = m.recipient;
  channel = m.channel;
  bytes = m.bytes;
  done_at = done_at;
  deliver_at = deliver_at;
}

-- all that is known at a moment: the messages in flight stand in order of start, the waiting ones in order of enqueue
pub record World (P : Type 0) : Type 0 where
  pub caps : Caps P
  pub limited : Bool
  pub sending : List (Flight P)
  pub waiting : List (Message P)
  pub last_arrival : P → P → Option ℕ
  pub next_id : ℕ
  pub moment : ℕ

-- how it goes: some things come out of it, in this order, and the state after it is this; or it meets a fault
pub data Course (X S : Type 0) : Type 0 where
  goes : List X → S → Course X S
  meets : Error → Course X S

-- the last nanosecond that there is
abbrev pub last_moment : ℕ
last_moment = 18446744073709551615

-- what came out before, and then the rest
abbrev pub preceded : {X S : Type 0} → List X → Course X S → Course X S
preceded xs (goes ys s) = goes (xs ++ ys) s
preceded xs (meets fault) = meets fault

-- the one course, and then the next from where it ends
abbrev pub and_then : {X S : Type 0} → Course X S → (S → Course X S) → Course X S
and_then (goes xs s) next = preceded xs (next s)
and_then (meets fault) next = meets fault

-- if it goes, Q holds of the state after it
abbrev pub EndsWith : {X S : Type 0} → (S → Type 0) → Course X S → Type 0
EndsWith Q (goes xs s) = Q s
EndsWith Q (meets fault) = ⊤

-- whether an arrival at that moment is not before the last one
abbrev pub is_in_order : Option ℕ → ℕ → Bool
is_in_order None at = true
is_in_order (Some last) at = nat_le last at

-- the later of the last arrival, if there is one, and that moment
abbrev pub later_of : Option ℕ → ℕ → ℕ
later_of None at = at
later_of (Some last) at = max last at

-- a new world, whose first flow has this id
abbrev pub new_world : {P : Type 0} → ℕ → World P
new_world id = record {
  caps = no_caps;
  limited = false;
  sending = [];
  waiting = [];
  last_arrival = λ p q. None;
  next_id = id;
  moment = 0;
}

-- the messages in flight
abbrev pub flows : {P : Type 0} → World P → List (Message P)
flows w = map (λ f. f.message) w.sending

module _ {P : Type 0} (cmp : P → P → Ordering) where
  -- ---- starting

  -- whether the pair of this message sends nothing
  abbrev pub is_idle : World P → Message P → Bool
  is_idle w m = not (list_any (same_pair cmp m) (flows w))

  -- the pair's first waiting message
  abbrev pub first_waiting : World P → Message P → Option (Message P)
  first_waiting w m = find (same_pair cmp m) w.waiting

  -- whether a pair's first waiting message may start at t: the pair is idle, and it arrives no earlier than the
  -- pair's last one
  abbrev pub may_start : ℕ → World P → Message P → Bool
  may_start t w m = is_idle w m && is_in_order (w.last_arrival m.origin m.recipient) (t + m.latency)

  -- the pair's first waiting message starts, under the next flow id
  abbrev pub start : World P → Message P → Course (Completed P) (World P)
  start w m = cond (nat_le last_moment w.next_id) (meets FlowIdsUsedUp)
      (goes [] (record w {
        sending = w.sending ++ flight_of m ∷ [];
        waiting = without_first (same_pair cmp m) w.waiting;
        next_id = w.next_id + 1;
      }))

  -- it starts if it may
  abbrev pub start_next : ℕ → World P → Option (Message P) → Course (Completed P) (World P)
  start_next t w None = goes [] w
  start_next t w (Some m) = cond (may_start t w m) (start w m) (goes [] w)

  -- ---- completing

  -- whether a message in flight is done: nothing of it is left, or it uses no capped side
  abbrev pub is_done : World P → Flight P → Bool
  is_done w f = (f.left.num == 0) || is_unlimited cmp w.caps f.message

  -- no arrival of this message's pair is before that moment from now on
  abbrev pub raised : (P → P → Option ℕ) → Message P → ℕ → P → P → Option ℕ
  raised last m at p q =
      cond (same_peer cmp m.origin p && same_peer cmp m.recipient q) (Some (later_of (last p q) at)) (last p q)

  -- when a message that is finished at t arrives, or counts as arrived if it is dropped
  abbrev pub arrival : ℕ → Message P → ℕ
  arrival t m = if is_delivered cmp m then t + m.latency else t

  -- whether it would arrive past the last moment
  abbrev pub is_late : ℕ → Message P → Bool
  is_late t m = is_delivered cmp m && nat_lt last_moment (t + m.latency)

  -- what is answered of it
  abbrev pub completed : ℕ → Message P → Completed P
  completed t m = completion_of m t (if is_delivered cmp m then Some (arrival t m) else None)

  -- the world in which the first message that is done is out of flight, and that message has arrived
  abbrev pub out_of_flight : ℕ → World P → Message P → World P
  out_of_flight t w m =
      record w { sending = without_first (is_done w) w.sending; last_arrival = raised w.last_arrival m (arrival t m) }

  -- a message in flight completes at t, and its pair's first waiting one starts if it may
  abbrev pub complete : ℕ → World P → Message P → Course (Completed P) (World P)
  complete t w m =
      let landed : World P = out_of_flight t w m in
      cond (is_late t m) (meets MomentTooLate)
      (preceded (completed t m ∷ []) (start_next t landed (first_waiting landed m)))

  -- while a message in flight is done, the first one in the list completes; each makes one message fewer
  abbrev pub settle_within : ℕ → ℕ → World P → Course (Completed P) (World P)
  settle_within zero t w = goes [] w
  settle_within (suc messages) t w =
      elim (find (is_done w) w.sending) [
        | None ↦ goes [] w
        | Some f ↦ and_then (complete t w f.message) (settle_within messages t)
      ]

  -- all that is done at t completes
  abbrev pub settle : ℕ → World P → Course (Completed P) (World P)
  settle t w = settle_within (length w.sending + length w.waiting) t w

  -- ---- waking

  -- the first waiting message of each pair
  abbrev pub fronts : List (Message P) → List (Message P)
  fronts [] = []
  fronts (m ∷ ms) = m ∷ filter (λ n. not (same_pair cmp m n)) (fronts ms)

  -- one of the least pair
  abbrev pub least_pair : List (Message P) → Option (Message P)
  least_pair [] = None
  least_pair (m ∷ ms) = Some (elim (least_pair ms) [ None ↦ m | Some n ↦ if pair_before cmp n m then n else m ])

  -- those that may start at t
  abbrev pub ready : ℕ → World P → List (Message P)
  ready t w = filter (may_start t w) (fronts w.waiting)

  -- a message starts, and all that is done then completes
  abbrev pub turn : ℕ → World P → Message P → Course (Completed P) (World P)
  turn t w m = and_then (start w m) (settle t)

  -- while a message may start, that of the least pair has its turn; each makes one waiting message fewer
  abbrev pub wake_within : ℕ → ℕ → World P → Course (Completed P) (World P)
  wake_within zero t w = goes [] w
  wake_within (suc waiting) t w =
      elim (least_pair (ready t w)) [
        | None ↦ goes [] w
        | Some m ↦ and_then (turn t w m) (wake_within waiting t)
      ]

  -- all that may start at t starts
  abbrev pub wake : ℕ → World P → Course (Completed P) (World P)
  wake t w = wake_within (length w.waiting) t w

  -- what happens at the world's moment: what is done completes, and then what may start starts
  abbrev pub instant : World P → Course (Completed P) (World P)
  instant w = and_then (settle w.moment w) (λ v. wake v.moment v)

  -- nothing completes or starts at t
  pub record IsQuiet (t : ℕ) (w : World P) : Type 0 where
    pub none_done : list_any (is_done w) w.sending ≡ false
    pub none_ready : ready t w ≡ []
