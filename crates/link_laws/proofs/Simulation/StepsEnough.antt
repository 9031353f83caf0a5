-- Settling has steps enough: more of them change nothing.
use Rattle.link_simulation.proofs.Common.{◌≡◌, ℕ, zero, suc, sym, ◌∙◌, arith, find, Ordering, IsTotalOrder, World}
use Rattle.link_simulation.proofs.Common.{complete, is_done, settle_within}
use Rattle.link_simulation.proofs.Simulation.Queue.{settle_first, by_option}
use Rattle.link_simulation.proofs.Simulation.SettlingEnds.{HasAtMost, complete_has, find_in_none}
use Rattle.link_simulation.proofs.Simulation.OtherPairs.{ends_more}
use Rattle.link_simulation.proofs.Simulation.Pass.{and_then_alike, ends_both}
use Rattle.link_simulation.proofs.Simulation.QuietInstants.{settle_nothing}

module _ {P : Type 0} (cmp : P → P → Ordering) (order : IsTotalOrder cmp) where
  pub settle_enough : (n m t : ℕ) (w : World P) → HasAtMost cmp order n w → HasAtMost cmp order m w
      → settle_within cmp n t w ≡ settle_within cmp m t w
  settle_enough zero m t w h k =
      sym (settle_nothing cmp order m t w (find_in_none (is_done cmp w) w.sending (omega arith)))
  settle_enough (suc n) zero t w h k =
      settle_nothing cmp order (suc n) t w (find_in_none (is_done cmp w) w.sending (omega arith))
  settle_enough (suc n) (suc m) t w h k =
      by_option (find _ w.sending) (λ e. settle_nothing cmp order (suc n) t w e ∙ sym
      (settle_nothing cmp order (suc m) t w e)) (λ f e. settle_first cmp order n t w f e ∙ and_then_alike
      (complete cmp t w f.message) (settle_within cmp n t) (settle_within cmp m t)
      (ends_more cmp order (λ (v : World P). HasAtMost cmp order n v × HasAtMost cmp order m v)
      (λ (v : World P). settle_within cmp n t v ≡ settle_within cmp m t v) _ (λ v j. (settle_enough n m t) v j.0 j.1)
      (ends_both _ _ _ (complete_has cmp order t n w f e h) (complete_has cmp order t m w f e k))) ∙ sym
      (settle_first cmp order m t w f e))
