-- What each call keeps of a planned world.
use Rattle.std.specs.Prelude.{◌≡◌, [], false}
use Rattle.std.specs.declared.cmp.Ordering.{Ordering}
use Rattle.link_simulation.specs.Simulation.Messages.{CapsAlike, PairsAlike, OneForEachPair}
use Rattle.link_simulation.specs.Rule.Planned.{Planned, rated_messages, AreInPairOrder, IsRated}

module _ {P : Type 0} (cmp : P → P → Ordering) where
  -- a planned world in order, as calls keep it
  pub record IsOrderly (p : Planned P) : Type 0 where
    -- each message in flight has its fair rate
    pub rated : IsRated cmp p
    -- at most one message of a pair is in flight
    pub one_each : OneForEachPair cmp (rated_messages p.sending)
    -- the waiting messages stand in the order of their pairs
    pub pair_order : AreInPairOrder cmp p.waiting
    -- before any limit nothing is in flight and nothing waits
    pub empty_at_first : p.limited ≡ false → (p.sending ≡ []) × (p.waiting ≡ [])
    -- equal peers and equal pairs have the same caps
    pub caps : CapsAlike cmp p.caps p.caps
    -- equal pairs have the same last arrival
    pub last_arrival : PairsAlike cmp p.last_arrival p.last_arrival
