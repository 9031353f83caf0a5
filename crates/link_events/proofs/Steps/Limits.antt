-- New caps, and what goes by them or is refused.
use Rattle.link_events.proofs.Common.{◌≡◌, ℕ, true, subst, Ordering, Error, Caps, Completed, Course, meets}
use Rattle.link_events.proofs.Common.{IsRefusedFor, Planned, Rebalances, none_sending, some_sending, refused_more}

module _ {P : Type 0} (cmp : P → P → Ordering) (now : ℕ) (caps : Caps P) (q : Planned P) where
  -- new caps that are there already
  rebalance_there : (course : Course (Completed P) (Planned P))
      → Rebalances cmp now caps (record q { caps = caps; limited = true }) course → Rebalances cmp now caps q course
  rebalance_there course (none_sending none looks) = none_sending none looks
  rebalance_there course (some_sending some settles) = some_sending some settles

  module _ (mid : Planned P) (is : mid ≡ record q { caps = caps; limited = true }) where
    pub rebalances_on : (course : Course (Completed P) (Planned P)) → Rebalances cmp now mid.caps mid course
        → Rebalances cmp now caps q course
    rebalances_on course h =
        rebalance_there course (subst (λ (r : Planned P). Rebalances cmp now r.caps r course) is h)

    -- new caps are refused as what is done under them
    pub limits_refused : (e : Error) → IsRefusedFor (λ fault. Rebalances cmp now mid.caps mid (meets fault)) e
        → IsRefusedFor (λ fault. Rebalances cmp now caps q (meets fault)) e
    limits_refused =
        refused_more (λ fault. Rebalances cmp now mid.caps mid (meets fault))
        (λ fault. Rebalances cmp now caps q (meets fault)) (λ fault. rebalances_on (meets fault))
