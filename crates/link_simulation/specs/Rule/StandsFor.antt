-- When a planned world stands for a world of the simulation.
use Rattle.std.specs.Prelude.{◌≡◌, ℕ, ◌<◌, ◌≤◌, [], false, IfSome}
use Rattle.std.specs.List.{filter, list_any, AllZip}
use Rattle.std.specs.declared.cmp.Ordering.{Ordering}
use Rattle.link_simulation.specs.Simulation.Messages.{Message, SameMessage, same_pair, CapsAlike, PairsAlike}
use Rattle.link_simulation.specs.Simulation.Messages.{OneForEachPair}
use Rattle.link_simulation.specs.Simulation.Rates.{IsLowest}
use Rattle.link_simulation.specs.Simulation.World.{World, Flight, Completed, Course, goes, meets, flows, is_done}
use Rattle.link_simulation.specs.Simulation.World.{IsQuiet}
use Rattle.link_simulation.specs.Simulation.Replies.{SameCompletion}
use Rattle.link_simulation.specs.Rule.Planned.{Planned, RatedFlight, IsLeastMoment, left_at}
use Rattle.link_simulation.specs.Rule.Planned.{SomeSpentAt}
use Rattle.link_simulation.specs.Rule.Planned.{SomeReadyAt, AreInPairOrder, IsRated}

module _ {P : Type 0} (cmp : P → P → Ordering) where
  -- a message in flight, as it is planned and as it is at t
  pub record IsSameFlight (t : ℕ) (f : RatedFlight P) (g : Flight P) : Type 0 where
    pub message : SameMessage cmp f.message g.message
    pub updated : f.updated ≤ t
    pub lowest : IsLowest f.left
    pub rate : IfSome f.rate (λ r. 0 < r.den)
    pub left : g.left ≡ left_at t f

  -- the two worlds are the same at t, but for what is planned; equal peers have equal entries
  pub record Tallies (t : ℕ) (p : Planned P) (w : World P) : Type 0 where
    pub moment : w.moment ≡ t
    pub caps : CapsAlike cmp p.caps w.caps
    pub limited : p.limited ≡ w.limited
    pub last_arrival : PairsAlike cmp p.last_arrival w.last_arrival
    pub next_id : p.next_id ≡ w.next_id
    pub waiting : (m : Message P) → AllZip (SameMessage cmp) (filter (same_pair cmp m) p.waiting)
        (filter (same_pair cmp m) w.waiting)
    pub pair_order : AreInPairOrder cmp p.waiting
    pub sending : AllZip (IsSameFlight t) p.sending w.sending
    pub one_each : OneForEachPair cmp (flows w)
    pub empty_at_first : p.limited ≡ false → (p.sending ≡ []) × (p.waiting ≡ [])

  -- and the rates and the finish are planned
  pub record Follows (t : ℕ) (p : Planned P) (w : World P) : Type 0 where
    pub tallies : Tallies t p w
    pub rated : IsRated cmp p
    pub finish : IsLeastMoment (SomeSpentAt p.sending) p.finish

  -- after a settling at t: nothing is done, and the start is planned from t on
  pub record IsSettled (t : ℕ) (p : Planned P) (w : World P) : Type 0 where
    pub follows : Follows t p w
    pub none_done : list_any (is_done cmp w) w.sending ≡ false
    pub start : IsLeastMoment (λ s. (t ≤ s) × SomeReadyAt cmp p s) p.start

  -- between events: the same at the world's moment, nothing is done and nothing may start, and the next finish and
  -- start are planned
  pub record StandsFor (p : Planned P) (w : World P) : Type 0 where
    pub follows : Follows w.moment p w
    pub quiet : IsQuiet cmp w.moment w
    pub start : IsLeastMoment (SomeReadyAt cmp p) p.start

  -- the same completions, element by element, and worlds that correspond; or the same fault
  abbrev pub CoursesAlike : (Planned P → World P → Type 0) → Course (Completed P) (Planned P)
      → Course (Completed P) (World P) → Type 0
  CoursesAlike R (goes cs p) (goes ds w) = AllZip (SameCompletion cmp) cs ds × R p w
  CoursesAlike R (goes cs p) (meets fault) = ⊥
  CoursesAlike R (meets fault) (goes ds w) = ⊥
  CoursesAlike R (meets fault) (meets other) = fault ≡ other
