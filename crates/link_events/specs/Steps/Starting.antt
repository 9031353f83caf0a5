-- The next message of a pair starts, and stays in flight at the account that follows.
use Rattle.std.specs.Prelude.{◌≡◌, ◌≢◌, ℕ, ◌<◌, List, length, Some, true, false}
use Rattle.std.specs.declared.cmp.Ordering.{Ordering}
use Rattle.fairness.specs.Numbers.Amount.{whole}
use Rattle.link_simulation.specs.Simulation.Messages.{Message}
use Rattle.link_simulation.specs.Simulation.Rates.{is_unlimited}
use Rattle.link_simulation.specs.Simulation.World.{last_moment}
use Rattle.link_simulation.specs.Rule.Planned.{Planned, may_launch, is_spent}
use Rattle.link_simulation.specs.Rule.Events.{launched}
use Rattle.link_pairs.specs.Pairs.CapsOf.{caps_of}
use Rattle.link_pairs.specs.Pairs.Entries.{first_of}
use Rattle.link_flights.specs.Flights.Rated.{HadFairRates}
use Rattle.link_events.specs.declared.ledger.Ledger.{Ledger}
use Rattle.link_events.specs.Steps.AsPlanned.{planned}

-- an id is left for a message, it has bytes, and it uses a capped side
pub record WouldStay {P : Type 0} (cmp : P → P → Ordering) (p : Planned P) (m : Message P) : Type 0 where
  pub id : p.next_id < last_moment
  pub some_bytes : length m.bytes ≢ 0
  pub capped : is_unlimited cmp p.caps m ≡ false

-- the first waiting message of a pair has started, of which something is left and which uses a capped side; and what
-- was said of the rates of those in flight holds as before
pub record StartsNext {P : Type 0} {a : _} {b : _} {c : _} (cmp : P → P → Ordering) (t : ℕ) (origin recipient : P)
    (old new : Ledger P a b c) : Type 0 where
  pub next : Message P
  pub first : first_of cmp (planned cmp old).waiting origin recipient ≡ Some next
  pub may : may_launch cmp t (planned cmp old) next ≡ true
  pub id : old.next_id < last_moment
  pub stays : is_spent cmp (planned cmp old).caps
      (record {
        id = old.next_id;
        message = next;
        left = whole (length next.bytes);
        rate = Some (whole 0);
        updated = t;
      }) ≡ false
  pub is : planned cmp new ≡ launched cmp t (planned cmp old) next
  pub at : new.flights.at ≡ old.flights.at
  pub fair : (done : List (Message P))
      → ∥ HadFairRates cmp (caps_of cmp old.peers.entries old.pairs.entries) old.flights done ∥₁
      → ∥ HadFairRates cmp (caps_of cmp new.peers.entries new.pairs.entries) new.flights done ∥₁
