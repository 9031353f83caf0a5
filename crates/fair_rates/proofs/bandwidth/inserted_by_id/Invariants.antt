use Rattle.fair_rates.proofs.Common.{◌≡◌, ℕ, nat_cmp, last_rate}
use Rattle.std.specs.BTreeMap.{get}
use Rattle.std.specs.Iterator.Adapters.{zip_first, zip_second}
use Rattle.std.specs.Slice.Iter.{iter_rest}
use Rattle.fairness.specs.Fairness.Rates.{or_else}
use Rattle.fair_rates.proofs.bandwidth.inserted_by_id.Given as goal

abbrev pub invariant-loop-flow : goal.invariant-loop-flow
invariant-loop-flow g l =
    (id : ℕ)
    → or_else (last_rate id (iter_rest (zip_first l.flow-iterator)) (iter_rest (zip_second l.flow-iterator)))
    (get nat_cmp l.by_id id) ≡ last_rate id l.flows l.rates
