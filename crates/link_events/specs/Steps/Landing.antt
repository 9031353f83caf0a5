-- The first half of an account, where the first of what leaves lands with it.
use Rattle.std.specs.Prelude.{◌≡◌, ℕ, false, true, List, [], ◌∷◌, Option, None}
use Rattle.std.specs.declared.cmp.Ordering.{Ordering}
use Rattle.link_simulation.specs.Simulation.Messages.{Message}
use Rattle.link_simulation.specs.Simulation.World.{Course, is_late, arrival, completed, completion_of}
use Rattle.link_simulation.specs.Rule.Planned.{Planned, next_of}
use Rattle.link_simulation.specs.Rule.Events.{Accounts, Launches, landed}
use Rattle.link_simulation.specs.Rule.Leaving.{Leaves}
use Rattle.link_pairs.specs.Pairs.Entries.{raised_at}
use Rattle.link_waiting.specs.Idle.Index.{idle_from}

-- a message that is done lands in time: from now on no later one of its pair arrives before it
pub record LandsAt {P : Type 0} (cmp : P → P → Ordering) (t : ℕ) (m : Message P) (old new : P → P → Option ℕ)
    (deliver_at : Option ℕ) : Type 0 where
  pub at : ℕ
  pub moment : at ≡ arrival cmp t m
  pub raised : new ≡ raised_at cmp old m.origin m.recipient at
  pub in_time : is_late cmp t m ≡ false
  pub completion : completion_of m t deliver_at ≡ completed cmp t m

-- the first of what is done lands, and arrives at that moment, if it does; where nothing is done, nothing lands
abbrev pub FirstLands : {P : Type 0} → (P → P → Ordering) → ℕ → List (Message P) → (P → P → Option ℕ)
    → (P → P → Option ℕ) → Option ℕ → Type 0
FirstLands cmp t [] old new deliver_at = (new ≡ old) × (deliver_at ≡ None)
FirstLands cmp t (m ∷ ms) old new deliver_at = LandsAt cmp t m old new deliver_at

-- the moment from which on the next message of the pair of the first that is done may start, if one is done and one
-- waits
abbrev pub since_of_first : {P : Type 0} → (P → P → Ordering) → Planned P → List (Message P) → Option ℕ
since_of_first cmp p [] = None
since_of_first cmp p (m ∷ ms) = idle_from cmp p m.origin m.recipient

-- the first of some messages that are done would arrive too late
pub record IsFirstLate {P : Type 0} (cmp : P → P → Ordering) (t : ℕ) (done : List (Message P)) : Type 0 where
  pub first : Message P
  pub others : List (Message P)
  pub done_is : done ≡ first ∷ others
  pub is : is_late cmp t first ≡ true

-- what is done leaves, and the first of it lands: it arrives at that moment, if it does, and the next of its pair may
-- start from that other one on
pub record LandsFirst {P : Type 0} (cmp : P → P → Ordering) (t : ℕ) (old : Planned P) (m : Message P)
    (ms : List (Message P)) (deliver_at since : Option ℕ) (new : Planned P) : Type 0 where
  pub here : Planned P
  pub leaves : Leaves cmp t old (m ∷ ms) here
  pub lands : new ≡ landed cmp t here m
  pub in_time : is_late cmp t m ≡ false
  pub completion : completion_of m t deliver_at ≡ completed cmp t m
  pub idle : since ≡ idle_from cmp new m.origin m.recipient

-- nothing is done: all drains, and nothing lands
pub record NoneLeaves {P : Type 0} (cmp : P → P → Ordering) (t : ℕ) (old : Planned P) (deliver_at since : Option ℕ)
    (new : Planned P) : Type 0 where
  pub leaves : Leaves cmp t old [] new
  pub no_arrival : deliver_at ≡ None
  pub no_next : since ≡ None

-- what is done leaves, and the first of it lands, if something is done
abbrev pub LeavesLanding : {P : Type 0} → (P → P → Ordering) → ℕ → Planned P → List (Message P) → Option ℕ → Option ℕ
    → Planned P → Type 0
LeavesLanding cmp t old [] deliver_at since new = NoneLeaves cmp t old deliver_at since new
LeavesLanding cmp t old (m ∷ ms) deliver_at since new = LandsFirst cmp t old m ms deliver_at since new

-- what is done leaves, and the first of it would arrive too late
pub record LandsLate {P : Type 0} (cmp : P → P → Ordering) (t : ℕ) (old : Planned P) : Type 0 where
  pub first : Message P
  pub others : List (Message P)
  pub here : Planned P
  pub leaves : Leaves cmp t old (first ∷ others) here
  pub late : is_late cmp t first ≡ true

-- the message has landed at `there`. Whatever left before, and from where: it leaves at an account, and the turn of the
-- next message of the pair, once the message has landed, has that course
abbrev pub AccountsWithNext : {P : Type 0} → (P → P → Ordering) → ℕ → Planned P → Message P
    → Course (Message P) (Planned P) → Type 0
AccountsWithNext {P} cmp t there m course = (old here : Planned P) (leavers : List (Message P))
    → Leaves cmp t old leavers here → there ≡ landed cmp t here m
    → (mid : Planned P) × Accounts cmp t old leavers mid × Launches cmp t (landed cmp t mid m) (next_of cmp mid m) course
