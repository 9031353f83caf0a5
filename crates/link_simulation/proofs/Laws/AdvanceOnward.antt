-- Advancing to a moment and then on to a later one.
use Rattle.link_simulation.proofs.Common.{common_steps, ◌≡◌, ℕ, ◌+◌, ◌-◌, ◌≤◌, List, refl, ap, arith, append-nil, []}
use Rattle.link_simulation.proofs.Common.{Ordering, IsTotalOrder, World, Completed, Course, goes, meets, preceded}
use Rattle.link_simulation.proofs.Common.{and_then, Ticks, call_advance, Runs}
use Rattle.link_simulation.proofs.Simulation.Split.{ticks_on}
use Rattle.link_simulation.proofs.Simulation.QuietInstants.{ends_at, ticks_end_at}

module _ {P : Type 0} (cmp : P → P → Ordering) (order : IsTotalOrder cmp) where
  -- an advance does no more than tick
  pub nothing_more : (c : Course (Completed P) (World P)) → and_then c (λ u. goes [] u) ≡ c
  nothing_more (goes cs u) = ap (λ (xs : List (Completed P)). goes xs u) (append-nil cs)
  nothing_more (meets fault) = refl

  pub ticks_of : (w : World P) (now : ℕ) (c : Course (Completed P) (World P)) → Runs cmp w (call_advance now) now c
      → Ticks cmp (now - w.moment) w c
  ticks_of w now c runs = grind (arith, common_steps, nothing_more)

  pub advance_splits : (w v : World P) (a b : ℕ) (cs : List (Completed P)) (course : Course (Completed P) (World P))
      → w.moment ≤ a → a ≤ b → Runs cmp w (call_advance a) a (goes cs v) → Runs cmp v (call_advance b) b course
      → Runs cmp w (call_advance b) b (preceded cs course)
  advance_splits w v a b cs course after later first second =
      let first_ticks = ticks_of w a (goes cs v) first in
      let at : v.moment ≡ w.moment + (a - w.moment) = grind (arith, ends_at, ticks_end_at) in
      let all = ticks_on cmp first_ticks (b - v.moment) v cs course refl (ticks_of v b course second) in
      let count : (b - v.moment) + (a - w.moment) ≡ b - w.moment = omega arith in
      grind (arith, (nothing_more (preceded cs course)))
