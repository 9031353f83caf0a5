use Rattle.fairness.proofs.Common.{◌≡◌, ◌∙◌, inl, inr, refl, sym, subst, eqb-true, Rate, amount_of}
use Rattle.fairness.specs.Numbers.Draining.{left_after}
use Rattle.fairness.proofs.Numbers.Transfer.{all_is_left}
use Rattle.fairness.proofs.bandwidth.time.transfer.Goals.{then-is_zero, else-is_zero, then-is_zero-2, else-is_zero-2}
use Rattle.fairness.proofs.bandwidth.time.transfer.Goals as goal

pub returns-in-Finite-clause-value : goal.returns-in-Finite-clause-value
returns-in-Finite-clause-value c =
    subst (λ (r : Rate). amount_of c.args.remaining ≡ left_after r c.args.elapsed (amount_of c.args.remaining))
    (sym c.in-Finite.is) (all_is_left c.args.remaining c.in-Finite.rate c.args.elapsed (elim c.if-is_zero-2.branch [
      | then-is_zero-2 w ↦ (elim c.if-is_zero.branch [
        | then-is_zero v ↦ inl (v.if-is_zero.ensures.0 refl)
        | else-is_zero v ↦ inr (inl (v.is_zero-else-is_zero.ensures.0 (sym v.value-is ∙ w.if-is_zero-2.true)))
      ])
      | else-is_zero-2 w ↦ inr (inr (eqb-true c.args.elapsed 0 (sym w.value-is ∙ c.if-elapsed-eq0.true)))
    ]))
