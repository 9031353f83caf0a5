use Rattle.fair_routes.proofs.Common.{◌≡◌, None, replicate}
use Rattle.fair_routes.proofs.routes.weighted.rising.Rising.new.Given as goal

abbrev pub invariant-loop : goal.invariant-loop
invariant-loop l = l.parts.items ≡ replicate l.counter None
