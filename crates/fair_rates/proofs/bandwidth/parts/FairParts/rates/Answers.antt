use Rattle.fair_rates.proofs.Common.{◌<◌, ◌∷◌, [], ℕ, None, length, get_or, subst, sym, ap, ◌∙◌, arith}
use Rattle.fair_rates.proofs.Common.{length-append, get_or_default, IsRateAt, level_at, Rate, Finite}
use Rattle.fairness.proofs.Filling.Frozen.{some_of_if}
use Rattle.fair_rates.proofs.Filling.Rates.{rated_push}
use Rattle.fair_rates.proofs.bandwidth.parts.FairParts.rates.Goals as goal
use Rattle.fair_rates.proofs.bandwidth.parts.FairParts.rates.Goals.{in-Some, in-None}

pub loop-level-preserved : goal.loop-level-preserved
loop-level-preserved c =
    let self = c.args.self.now in
    let rates = c.loop-level.rates.items in
    let rate = c.match-level.push in
    let i = c.loop-level.level-index in
    let Holds : ℕ → Rate → Type 0 = λ flow r.
    IsRateAt c.in_ok-fractions.fractions.items (level_at self.level_of.items flow) r in
    let here : Holds i rate = elim c.match-level.branch [
      | in-Some w ↦
          let is = ap (λ xs. get_or xs i None) (sym c.deref-level-items.ensures.value) ∙ w.in-Some.is in
          let place = w.in-Some.place in
          let flow : i < length self.level_of.items =
          omega (arith, c.loop-level-test.true, ap length c.deref-level-items.ensures.value) in
          let some = some_of_if (λ k. k < length self.levels.items) (level_at self.level_of.items i)
          (c.requires.inside i None flow) place is in
          let inside : place < length c.in_ok-fractions.fractions.items =
          omega (arith, some, c.in_ok-fractions.ensures.levels.one_each) in
          subst (λ o. IsRateAt c.in_ok-fractions.fractions.items o rate) (sym is) (
            inside,
            λ d.
                w.push-is ∙ ap Finite (w.index.ensures
                ∙ get_or_default c.in_ok-fractions.fractions.items place w.index.result.now d inside),
          )
      | in-None w ↦
          let is = ap (λ xs. get_or xs i None) (sym c.deref-level-items.ensures.value) ∙ w.in-None.is in
          subst (λ o. IsRateAt c.in_ok-fractions.fractions.items o rate) (sym is) w.push-is
    ] in
    record {
      one_each =
          omega (arith, ap length c.in_ok-push.ensures.items, length-append {A = Rate} rates (rate ∷ []), c.loop-level.invariant.one_each);
      rated =
          subst (λ xs. (flow : ℕ) (d : Rate) → flow < length xs → Holds flow (get_or xs flow d))
          (sym c.in_ok-push.ensures.items)
          (rated_push Holds rates rate i c.loop-level.invariant.one_each here c.loop-level.invariant.rated);
    }

pub returns-clause-rates : goal.returns-clause-rates
returns-clause-rates c = record {
  fractions = c.in_ok-fractions.fractions.items;
  levels = c.in_ok-fractions.ensures.levels;
  one_each =
      omega (
        arith,
        c.loop-level.invariant.one_each,
        c.loop-level-test.false,
        c.loop-level.auto.level-index-end,
        ap length c.deref-level-items.ensures.value,
      );
  rated = c.loop-level.invariant.rated;
}
