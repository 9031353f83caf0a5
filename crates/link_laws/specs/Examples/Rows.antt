-- For worked examples: peers are numbers, and a cap of a billion is one byte a nanosecond.
use Rattle.std.specs.Prelude.{ℕ, zero, suc, List, [], ◌∷◌, Bool, true, false, length, Option, Some, None, nat_lt}
use Rattle.std.specs.Ordering.{nat_cmp}
use Rattle.std.specs.declared.cmp.Ordering.{Ordering}
use Rattle.std.specs.declared.cmp.Ordering.TheVariants.{Equal}
use Rattle.link_simulation.specs.Simulation.Messages.{Message, no_caps}
use Rattle.link_simulation.specs.Simulation.World.{World, Completed, completion_of, flight_of}
use Rattle.link_simulation.specs.Simulation.Calls.{Call, call_limit, call_limit_link, call_enqueue, call_advance}
use Rattle.link_simulation.specs.Simulation.Calls.{call_enqueue_all, call_next, limited_by}
use Rattle.link_simulation.specs.Simulation.Replies.{Reply, reply_done, reply_next, reply_refused}
use Rattle.fairness.specs.declared.error.Error.TheVariants.{OutOfMemory, MomentTooLate}
use Rattle.link_simulation.specs.Rule.Planned.{RatedFlight, Planned, new_planned}
use Rattle.fairness.specs.Numbers.Amount.{Amount, whole}

-- an order by which all peers are equal
abbrev pub all_equal : ℕ → ℕ → Ordering
all_equal p q = Equal

-- a set of peers
abbrev pub below_three : ℕ → Bool
below_three p = nat_lt p 3

-- so many bytes
abbrev pub bytes : ℕ → List ℕ
bytes zero = []
bytes (suc n) = 0 ∷ bytes n

-- a message to be delivered: so many bytes from one peer to another, with a latency
abbrev pub message : ℕ → ℕ → ℕ → ℕ → Message ℕ
message origin recipient length latency = record {
  origin = origin;
  recipient = recipient;
  channel = 0;
  bytes = bytes length;
  latency = latency;
  should_deliver = true;
}

-- the same, to be dropped
abbrev pub dropped : ℕ → ℕ → ℕ → ℕ → Message ℕ
dropped origin recipient length latency = record (message origin recipient length latency) { should_deliver = false }

-- it is done at the first moment, and arrives at the second
abbrev pub arrives : Message ℕ → ℕ → ℕ → Completed ℕ
arrives m done at = completion_of m done (Some at)

-- it is done at that moment, and gone without arriving
abbrev pub is_gone : Message ℕ → ℕ → Completed ℕ
is_gone m done = completion_of m done None

-- one byte a nanosecond
abbrev pub a_byte_a_nanosecond : Option ℕ
a_byte_a_nanosecond = Some 1_000_000_000

-- as it is planned: the message has just started at moment 0 under flow id 0, and has that rate
abbrev pub rated_flight : Message ℕ → Option Amount → RatedFlight ℕ
rated_flight m rate = record { id = 0; message = m; left = whole (length m.bytes); rate = rate; updated = 0 }

-- at moment 0, the first peer has that egress cap, and the message has just started
abbrev pub flying : ℕ → Message ℕ → World ℕ
flying cap m = record {
  caps = limited_by nat_cmp no_caps 1 (Some cap) None;
  limited = true;
  sending = flight_of m ∷ [];
  waiting = [];
  last_arrival = λ p q. None;
  next_id = 1;
  moment = 0;
}

-- under limits five bytes and four are in flight at one byte a nanosecond, the four since moment 1; and three messages
-- wait, two of them for one pair
abbrev pub five_messages : Planned ℕ
five_messages = record (new_planned 0) {
  limited = true;
  sending = rated_flight (message 1 2 5 0) (Some (whole 1_000_000_000))
      ∷ record (rated_flight (message 2 3 4 0) (Some (whole 1_000_000_000))) { updated = 1 } ∷ [];
  waiting = message 1 2 2 0 ∷ message 1 3 1 0 ∷ message 1 2 3 0 ∷ [];
}

-- two messages of a pair wait, of latency 1 and 5; the last one arrives at 7
abbrev pub two_of_a_pair : Planned ℕ
two_of_a_pair = record (new_planned 1) {
  limited = true;
  waiting = message 1 2 1 1 ∷ message 1 2 1 5 ∷ [];
  last_arrival = λ p q. Some 7;
}

-- before a limit of nothing and after it messages are sent, and one of them is refused
abbrev pub calls_with_a_refusal : List (Call ℕ)
calls_with_a_refusal =
    call_enqueue 0 (message 1 2 1 0) ∷ call_next ∷ call_limit 0 1 None None ∷ call_enqueue 0 (message 1 3 1 0)
    ∷ call_limit_link 0 1 2 None ∷ call_enqueue 0 (message 2 1 1 0) ∷ call_advance 0 ∷ []

-- the others arrive at once
abbrev pub replies_with_a_refusal : List (Reply ℕ)
replies_with_a_refusal =
    reply_done (arrives (message 1 2 1 0) 0 0 ∷ []) ∷ reply_next None ∷ reply_done [] ∷ reply_refused OutOfMemory
    ∷ reply_done [] ∷ reply_done (arrives (message 2 1 1 0) 0 0 ∷ []) ∷ reply_done [] ∷ []

-- four bytes of latency 3, and behind them two bytes of latency 1
abbrev pub calls_of_a_follower : List (Call ℕ)
calls_of_a_follower =
    call_limit 0 1 a_byte_a_nanosecond None ∷ call_enqueue 0 (message 1 2 4 3) ∷ call_enqueue 0 (message 1 2 2 1)
    ∷ call_next ∷ call_advance 4 ∷ call_next ∷ call_advance 6 ∷ call_next ∷ call_advance 8 ∷ call_next ∷ []

-- the four bytes arrive at 7, and the two start at 6
abbrev pub replies_of_a_follower : List (Reply ℕ)
replies_of_a_follower =
    reply_done [] ∷ reply_done [] ∷ reply_done []
    ∷ reply_next (Some 4) ∷ reply_done (arrives (message 1 2 4 3) 4 7 ∷ []) ∷ reply_next (Some 6) ∷ reply_done []
    ∷ reply_next (Some 8) ∷ reply_done (arrives (message 1 2 2 1) 8 9 ∷ []) ∷ reply_next None ∷ []

-- a message that finishes at the last moment, and one that is enqueued then
abbrev pub calls_at_the_last_moment : List (Call ℕ)
calls_at_the_last_moment =
    call_limit 0 1 a_byte_a_nanosecond None ∷ call_enqueue 18_446_744_073_709_551_614 (message 1 2 1 0)
    ∷ call_next ∷ call_advance 18_446_744_073_709_551_615
    ∷ call_enqueue 18_446_744_073_709_551_615 (message 1 2 1 0) ∷ call_next
    ∷ call_advance 18_446_744_073_709_551_615 ∷ []

-- the first arrives then, and the other never does
abbrev pub replies_at_the_last_moment : List (Reply ℕ)
replies_at_the_last_moment =
    reply_done [] ∷ reply_done [] ∷ reply_next (Some 18_446_744_073_709_551_615)
    ∷ reply_done (arrives (message 1 2 1 0) 18_446_744_073_709_551_615 18_446_744_073_709_551_615 ∷ [])
    ∷ reply_done [] ∷ reply_next None ∷ reply_done [] ∷ []

-- a list of four messages: a byte that arrives at 2, nothing, a second byte of that pair, and one that no cap holds
abbrev pub calls_of_a_list : List (Call ℕ)
calls_of_a_list =
    call_limit 0 1 a_byte_a_nanosecond None
    ∷ call_enqueue_all 0 (message 1 2 1 1 ∷ message 1 3 0 2 ∷ message 1 2 1 0 ∷ message 3 4 1 0 ∷ [])
    ∷ call_next ∷ call_advance 1 ∷ call_next ∷ call_advance 2 ∷ call_next ∷ call_advance 3 ∷ call_next ∷ []

-- two of them complete as they are sent, in their order, and the second byte starts at 2
abbrev pub replies_of_a_list : List (Reply ℕ)
replies_of_a_list =
    reply_done [] ∷ reply_done (arrives (message 1 3 0 2) 0 2 ∷ arrives (message 3 4 1 0) 0 0 ∷ [])
    ∷ reply_next (Some 1) ∷ reply_done (arrives (message 1 2 1 1) 1 2 ∷ []) ∷ reply_next (Some 2) ∷ reply_done []
    ∷ reply_next (Some 3) ∷ reply_done (arrives (message 1 2 1 0) 3 3 ∷ []) ∷ reply_next None ∷ []

-- before any limit a list whose second message is late, and then a message of the pair of its first
abbrev pub calls_of_a_late_list : List (Call ℕ)
calls_of_a_late_list =
    call_enqueue_all 1 (message 1 2 1 5 ∷ message 3 4 1 18_446_744_073_709_551_615 ∷ message 1 2 1 0 ∷ [])
    ∷ call_enqueue 1 (message 1 2 1 0) ∷ call_next ∷ []

-- the list is refused, and that message arrives at once
abbrev pub replies_of_a_late_list : List (Reply ℕ)
replies_of_a_late_list =
    reply_refused MomentTooLate ∷ reply_done (arrives (message 1 2 1 0) 1 1 ∷ []) ∷ reply_next None ∷ []
