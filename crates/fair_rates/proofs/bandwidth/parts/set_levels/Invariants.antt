use Rattle.fair_rates.proofs.Common.{◌≡◌, ℕ, ◌+◌, ◌≤◌, ◌⊎◌, All, Contains, Some, take, sum_by, level_at}
use Rattle.fair_rates.specs.Filling.States.{rises}
use Rattle.fair_rates.proofs.bandwidth.parts.set_levels.Given as goal

abbrev pub invariant-loop-user : goal.invariant-loop-user
invariant-loop-user l = record {
  all : All (λ flow. level_at l.level_of flow ≡ Some l.place) (take l.user-index l.users);
  others : (flow : ℕ)
      → Contains (take l.user-index l.users) flow ⊎ (level_at l.level_of flow ≡ level_at l.initial.level_of flow);
  fewer : l.fresh + sum_by rises l.level_of ≡ sum_by rises l.initial.level_of;
  few : l.fresh ≤ l.user-index;
}
