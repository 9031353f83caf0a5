use Rattle.fair_rates.proofs.Common.{◌≡◌, ◌∷◌, ◌++◌, List, [], ap, ◌∙◌, length, subst, sym, arith, Reverse, common_steps, OpenSide}
use Rattle.fair_rates.proofs.Common.{AreOpened, append_assoc, append-nil}
use Rattle.std.proofs.lemmas.List.{nil_from_length}
use Rattle.fair_rates.specs.declared.bandwidth.sides.Side.{Side}
use Rattle.fair_rates.proofs.Filling.Queue.{opened_none, opened_more, opened_without, put_last}
use Rattle.fair_rates.proofs.bandwidth.filling.open_list.Goals as goal

-- one more is taken off the end
took : (all was rest taken : List Side) (side : Side) → all ≡ was ++ taken → was ≡ rest ++ side ∷ []
    → all ≡ rest ++ side ∷ taken
took all was rest taken side parted popped =
    parted ∙ ap (λ xs. xs ++ taken) popped ∙ append_assoc rest (side ∷ []) taken

pub loop-side-init : goal.loop-side-init
loop-side-init c =
    let none = c.reserve.ensures.items ∙ c.clear.ensures.items in
    record {
      opened = ([], sym (append-nil c.args.sides.now.items), subst (AreOpened []) (sym none) opened_none);
      count = omega (arith, ap length none);
    }

pub loop-side-preserved-in-Continue-branch-3 : goal.loop-side-preserved-in-Continue-branch-3
loop-side-preserved-in-Continue-branch-3 c =
    let side = c.in-Some.side in
    let opens = c.loop-side.opens.items in
    let opened : Reverse OpenSide = record { 0 = c.in_ok-open.open } in
    let before = c.loop-side.invariant.opened in
    record {
      opened = (
        side ∷ before.0,
        took c.args.sides.now.items c.loop-side.sides.items c.pop.new.self.items before.0 side before.1
            c.in-Some.ensures.items,
        subst (AreOpened (side ∷ before.0)) (sym c.in_ok-push.ensures.items)
            (opened_more before.0 side opens before.2 (opens ++ opened ∷ []) (put_last opened opens)
            c.in_ok-open.ensures.slack (sym c.in_ok-open.ensures.rising)),
      );
      count = omega (arith, c.in_ok-push.ensures.len, c.loop-side.invariant.count, c.in-Some.ensures.cases);
    }

pub loop-side-preserved : goal.loop-side-preserved
loop-side-preserved c =
    let side = c.in-Some.side in
    let before = c.loop-side.invariant.opened in
    record {
      opened = (
        side ∷ before.0,
        took c.args.sides.now.items c.loop-side.sides.items c.pop.new.self.items before.0 side before.1
            c.in-Some.ensures.items,
        opened_without before.0 side c.loop-side.opens.items before.2
            (grind (arith, common_steps, c.is_empty.ensures, c.if-not-is_empty.false)),
      );
      count = omega (arith, c.loop-side.invariant.count, c.in-Some.ensures.cases);
    }

pub returns-clause-opened : goal.returns-clause-opened
returns-clause-opened c =
    let before = c.loop-side.invariant.opened in
    let none : c.loop-side.sides.items ≡ [] = nil_from_length c.loop-side.sides.items (omega (arith, c.in_default.ensures.cases)) in
    subst (λ xs. AreOpened xs c.loop-side.opens.items) (sym (before.1 ∙ ap (λ xs. xs ++ before.0) none)) before.2
