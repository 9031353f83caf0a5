-- Planned worlds that are the same, up to equal peers.
use Rattle.std.specs.Prelude.{◌≡◌, ℕ, true, List, Option}
use Rattle.std.specs.List.{AllZip}
use Rattle.std.specs.declared.cmp.Ordering.{Ordering}
use Rattle.link_simulation.specs.Simulation.Messages.{Message, CapsAlike, PairsAlike, SameMessage}
use Rattle.fairness.specs.Sides.Subjects.{same_peer}
use Rattle.link_simulation.specs.Simulation.World.{Completed, Course, goes, meets}
use Rattle.link_simulation.specs.Simulation.Calls.{Call, call_limit, call_limit_link, call_enqueue, call_advance}
use Rattle.link_simulation.specs.Simulation.Calls.{call_enqueue_all, call_next}
use Rattle.link_simulation.specs.Simulation.Replies.{SameCompletion}
use Rattle.link_simulation.specs.Rule.Planned.{Planned, RatedFlight}
use Rattle.link_simulation.specs.Rule.Events.{Advances, Obeys}

module _ {P : Type 0} (cmp : P → P → Ordering) where
  -- the same message in flight
  pub record IsSameRatedFlight (f g : RatedFlight P) : Type 0 where
    pub id : f.id ≡ g.id
    pub message : SameMessage cmp f.message g.message
    pub left : f.left ≡ g.left
    pub rate : f.rate ≡ g.rate
    pub updated : f.updated ≡ g.updated

  -- the same caps, messages, rates and plans, of equal peers
  pub record IsSamePlanned (p q : Planned P) : Type 0 where
    pub caps : CapsAlike cmp p.caps q.caps
    pub limited : p.limited ≡ q.limited
    pub sending : AllZip IsSameRatedFlight p.sending q.sending
    pub waiting : AllZip (SameMessage cmp) p.waiting q.waiting
    pub last_arrival : PairsAlike cmp p.last_arrival q.last_arrival
    pub next_id : p.next_id ≡ q.next_id
    pub accounted : p.accounted ≡ q.accounted
    pub finish : p.finish ≡ q.finish
    pub start : p.start ≡ q.start

  -- the same call
  pub data IsSameCall : Call P → Call P → Type 0 where
    same_limit : {now : ℕ} {peer other : P} {egress ingress : Option ℕ} → same_peer cmp peer other ≡ true
        → IsSameCall (call_limit now peer egress ingress) (call_limit now other egress ingress)
    same_limit_link : {now : ℕ} {origin recipient o r : P} {cap : Option ℕ} → same_peer cmp origin o ≡ true
        → same_peer cmp recipient r ≡ true
        → IsSameCall (call_limit_link now origin recipient cap) (call_limit_link now o r cap)
    same_enqueue : {now : ℕ} {m n : Message P} → SameMessage cmp m n
        → IsSameCall (call_enqueue now m) (call_enqueue now n)
    same_enqueue_all : {now : ℕ} {ms ns : List (Message P)} → AllZip (SameMessage cmp) ms ns
        → IsSameCall (call_enqueue_all now ms) (call_enqueue_all now ns)
    same_advance : {now : ℕ} → IsSameCall (call_advance now) (call_advance now)
    same_next : IsSameCall call_next call_next

  -- the same completions, and the same planned world after them; or the same fault
  abbrev pub IsSameCourse : Course (Completed P) (Planned P) → Course (Completed P) (Planned P) → Type 0
  IsSameCourse (goes cs p) (goes ds q) = AllZip (SameCompletion cmp) cs ds × IsSamePlanned p q
  IsSameCourse (goes cs p) (meets fault) = ⊥
  IsSameCourse (meets fault) (goes ds q) = ⊥
  IsSameCourse (meets fault) (meets other) = fault ≡ other

  -- by the event rule the call on the planned world p is answered with those completions and leads to q, peers taken
  -- as equal by their order
  pub record GoesByRule (p : Planned P) (call : Call P) (completions : List (Completed P))
      (q : Planned P) : Type 0 where
    pub answers : List (Completed P)
    pub after : Planned P
    pub obeys : Obeys cmp p call (goes answers after)
    pub same_answers : AllZip (SameCompletion cmp) completions answers
    pub same_after : IsSamePlanned after q

  -- the same for an advance, with that many events
  pub record AdvancesByRule (now : ℕ) (p : Planned P) (events : ℕ) (completions : List (Completed P))
      (q : Planned P) : Type 0 where
    pub answers : List (Completed P)
    pub after : Planned P
    pub advances : Advances cmp now p events (goes answers after)
    pub same_answers : AllZip (SameCompletion cmp) completions answers
    pub same_after : IsSamePlanned after q
