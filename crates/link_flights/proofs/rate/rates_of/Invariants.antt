use Rattle.link_flights.proofs.Common.{◌≡◌, take}
use Rattle.link_flights.proofs.rate.rates_of.Given as goal

abbrev pub invariant-loop-level : goal.invariant-loop-level
invariant-loop-level l = record {
  given : l.rates.items ≡ take l.level-index l.levels;
}
