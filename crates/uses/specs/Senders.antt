-- Caps on what peers send, and on nothing else.
use Rattle.std.specs.Prelude.{◌≡◌, ℕ, ◌*◌, ◌≤◌, List, Option, Some, None, sum_by}
use Rattle.std.specs.declared.cmp.Ordering.{Ordering}
use Rattle.p2p_simulated.specs.declared.bandwidth.Flow.{Flow}
use Rattle.p2p_simulated.specs.declared.bandwidth.Rate.{Rate}
use Rattle.p2p_simulated.specs.Sides.Caps.{Caps}
use Rattle.p2p_simulated.specs.Fairness.UnderCaps.{IsFairById, limits}
use Rattle.p2p_simulated.specs.Lists.Places.{places_from}
use Rattle.p2p_simulated.specs.Sides.Subjects.{sent_by}

abbrev pub sending : {P : Type 0} → (P → Option ℕ) → Caps P
sending egress = record { egress = egress; ingress = λ p. None; link = λ p q. None }

-- the rates are fair, and the flows of each sender get no more than its cap together
pub record SendersKeepToCaps {P : Type 0} (cmp : P → P → Ordering) (egress : P → Option ℕ) (flows : List (Flow P))
    (rate_of : ℕ → Option Rate) : Type 0 where
  pub fair : IsFairById cmp (sending egress) flows rate_of
  pub within : (sender : P) (cap : ℕ) → egress sender ≡ Some cap
      → sum_by fair.fair.parts (places_from 0 (limits cmp (sent_by sender)) flows) ≤ cap * fair.fair.per
