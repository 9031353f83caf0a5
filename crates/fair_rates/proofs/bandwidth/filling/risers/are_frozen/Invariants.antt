use Rattle.fair_rates.proofs.Common.{All, IsSome, take, level_at}
use Rattle.fair_rates.proofs.bandwidth.filling.risers.are_frozen.Given as goal

abbrev pub invariant-loop-user : goal.invariant-loop-user
invariant-loop-user l = All (λ flow. IsSome (level_at l.level_of flow)) (take l.user-index l.users)
