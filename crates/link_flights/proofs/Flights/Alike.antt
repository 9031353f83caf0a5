-- Flights that stand alike are the same.
use Rattle.link_flights.proofs.Common.{◌≡◌, ◌<◌, ◌≤◌, true, not, ◌||◌, length, nat_le, list_all, HaveRates, Flights}
use Rattle.link_flights.proofs.Common.{Line}
use Rattle.std.proofs.Math.Bridge.{le_prop}
use std.HLevel.{prop→path_p}
use mathlib.Core.Bool.{Bool-set}

-- they are, where all that is kept is the same
pub same_flights : {P : Type 0} {a : _} {b : _} {c : _} (one other : Flights P a b c) → one.alloc ≡ other.alloc
    → one.list ≡ other.list → one.scale ≡ other.scale → one.at ≡ other.at → one.floor ≡ other.floor
    → one.loose ≡ other.loose
    → one.rated_anew ≡ other.rated_anew → one.settled ≡ other.settled → one.unsearched ≡ other.unsearched
    → one.stood ≡ other.stood → one ≡ other
same_flights one other alloc list scale at floor loose counted settled unsearched stood = λ i. record {
  alloc = alloc i;
  list = list i;
  scale = scale i;
  at = at i;
  floor = floor i;
  loose = loose i;
  rated_anew = counted i;
  settled = settled i;
  unsearched = unsearched i;
  stood = stood i;
  past = prop→path_p
      (λ j. list_all (λ f. not f.rated || nat_le f.since (at j)) (list j).items ≡ true) (hlevel Bool-set) one.past
      other.past i;
  scaled = prop→path_p (λ j. 0 < scale j) (hlevel le_prop) one.scaled other.scaled i;
  counted = prop→path_p (λ j. counted j ≤ length (list j).items) (hlevel le_prop) one.counted other.counted i;
  have_rates = prop→path_p (λ j. HaveRates (settled j) (list j).items) (hlevel (le_prop, Bool-set)) one.have_rates
      other.have_rates i;
}

pub same_line : {P : Type 0} (one other : Line P) → one.items ≡ other.items → one.before ≡ other.before → one ≡ other
same_line one other items before = λ i. record { items = items i; before = before i }
