use Rattle.fair_rates.proofs.Common.{heap_items, subst, arith, common_steps, AreGrown}
use Rattle.fair_rates.proofs.Filling.Growing.{grown_once, grown_permuted}
use Rattle.fair_rates.proofs.bandwidth.filling.grown_sides.Goals as goal

pub returns-then-factor-eq1-clause-grown : goal.returns-then-factor-eq1-clause-grown
returns-then-factor-eq1-clause-grown c =
    grown_once c.args.factor (heap_items c.args.queue) (grind (arith, common_steps, c.if-factor-eq1.true))

pub returns-clause-grown : goal.returns-clause-grown
returns-clause-grown c =
    grown_permuted c.args.factor (heap_items c.args.queue) c.in_ok-grown_list.field-0.items (heap_items c.from.result)
    c.from.ensures.1
    (subst (λ (sides : _). AreGrown c.args.factor sides.items c.in_ok-grown_list.field-0.items)
    c.into_vec-sides.ensures.value c.in_ok-grown_list.ensures.grown)
