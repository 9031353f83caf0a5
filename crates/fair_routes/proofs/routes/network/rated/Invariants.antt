use Rattle.fair_routes.proofs.Common.{◌≡◌, ◌++◌, zip}
use Rattle.std.specs.Iterator.Adapters.{zip_first, zip_second}
use Rattle.std.specs.Slice.Iter.{iter_rest}
use Rattle.fair_routes.proofs.routes.network.rated.Given as goal

-- the pairs so far, and those that are left
abbrev pub invariant-loop-flow : goal.invariant-loop-flow
invariant-loop-flow l =
    l.rated.items ++ zip (iter_rest (zip_first l.flow-iterator)) (iter_rest (zip_second l.flow-iterator))
    ≡ zip l.flows l.rates
