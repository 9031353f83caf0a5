-- What is done leaves those in flight.
use Rattle.std.specs.Prelude.{◌≡◌, ℕ, Bool, true, not, List}
use Rattle.std.specs.List.{filter}
use Rattle.std.specs.declared.cmp.Ordering.{Ordering}
use Rattle.fairness.specs.Sides.Caps.{Caps}
use Rattle.link_simulation.specs.Simulation.Messages.{Message, OneForEachPair}
use Rattle.link_simulation.specs.Rule.Planned.{rated_messages, drained_to, is_spent}
use Rattle.link_flights.specs.declared.flight_list.Flights.{Flights}
use Rattle.link_flights.specs.Flights.InFlight.{in_flight}
use Rattle.link_flights.specs.Flights.Rated.{HadFairRates}

-- what is done once all that is in flight has drained to a moment, in order of start
abbrev pub done_by : {P : Type 0} {a : _} {b : _} {c : _} → (P → P → Ordering) → ℕ → Caps P → Flights P a b c
    → List (Message P)
done_by cmp now caps flights = rated_messages (filter (is_spent cmp caps) (drained_to now (in_flight flights)))

-- all that is in flight has drained to a moment, and what is done has left: the rest stays, at most one message of each
-- pair; and where they were said to have fair rates till then, they had them with what left
pub record IsParted {P : Type 0} {a : _} {b : _} {c : _} (cmp : P → P → Ordering) (now : ℕ) (caps : Caps P)
    (were_fair : Bool) (old new : Flights P a b c) (done : List (Message P)) : Type 0 where
  pub left : done ≡ done_by cmp now caps old
  pub stays : in_flight new ≡ filter (λ f. not (is_spent cmp caps f)) (drained_to now (in_flight old))
  pub one_each : ∥ OneForEachPair cmp (rated_messages (in_flight new)) ∥₁
  pub fair : were_fair ≡ true → ∥ HadFairRates cmp caps new done ∥₁
  pub moment : new.at ≡ now
