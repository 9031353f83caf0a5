-- An example of many nanoseconds: at three bytes a second, one byte takes 333333334 of them.
use Rattle.link_simulation.proofs.Common.{◌≡◌, ℕ, ◌+◌, ◌<◌, ◌≤◌, [], ◌∷◌, false, Some, refl, arith, ◌==◌, nat_cmp}
use Rattle.link_simulation.proofs.Common.{eqb-true, Amount, drained, whole, reduced, gcd_within, AreFair, capped_sides}
use Rattle.link_simulation.proofs.Common.{World, IsQuiet, flows, NextIs, comes_next, drifted, by_bool}
use Rattle.std.proofs.Common.{lit≤}
use Rattle.link_laws.specs.Examples.Rows.{flying, message}
use Rattle.fairness.proofs.Numbers.Draining.{spent_if_covers, covers_if_spent}
use Rattle.link_laws.proofs.Examples.ComputedReplies.{fair_if_so}
use Rattle.link_simulation.proofs.Simulation.Stretch.{stretch, drifts_on}

abbrev slow : World ℕ
slow = flying 3 (message 1 2 1 0)

fair : AreFair nat_cmp slow.caps (flows slow) 1 (Some 3 ∷ [])
fair =
    record {
      parts = λ place. 3;
      fair = fair_if_so 1 (λ place. 3) (capped_sides nat_cmp slow.caps (flows slow)) refl;
      rated = refl;
    }

speed : Amount
speed = record { num = 3; den = 1 }

some_left : (k : ℕ) → k ≤ 333333333 → ((drained (whole 1) speed k).num == 0) ≡ false
unfolding speed
some_left k h =
    by_bool ((drained (whole 1) speed k).num == 0) (λ e. rw e (
    let c = covers_if_spent (whole 1) speed k (omega arith) (omega arith)
    (eqb-true ((drained (whole 1) speed k).num) 0 e) in
    absurd (omega arith))) (λ e. rw e refl)

none_left : (drained (whole 1) speed 333333334).num ≡ 0
unfolding speed
none_left = spent_if_covers (whole 1) speed 333333334 (omega arith) (omega arith) (omega arith)

at_speed : reduced 3 1 ≡ speed
unfolding speed reduced gcd_within
at_speed = refl

quiet : (k : ℕ) → 0 < k → k ≤ 333333333 → IsQuiet nat_cmp (0 + k) (drifted slow 1 (Some 3 ∷ []) k)
quiet k h j = record { none_done = rw (at_speed, some_left k j) refl; none_ready = refl }

not_quiet : ¬ IsQuiet nat_cmp 333333334 (drifted slow 1 (Some 3 ∷ []) 333333334)
not_quiet q = grind (arith, whole, at_speed, none_left)

-- the next event is its finish
pub slow_next : NextIs nat_cmp (flying 3 (message 1 2 1 0)) (Some 333333334)
slow_next =
    comes_next (stretch nat_cmp slow 1 (Some 3 ∷ []) fair (omega arith, tt) 333333332 (λ k h j. quiet k h j))
    (drifts_on nat_cmp slow 1 (Some 3 ∷ []) 333333333 fair (omega arith, tt)) not_quiet (lit≤ tt)
