use Rattle.link_traces.proofs.Common.{rules, ◌≡◌, ◌++◌, ◌∷◌, [], ap, subst, Ok, None, List, ℕ, ◌∙◌, sym, Input, TooLong}
use Rattle.link_traces.proofs.Common.{IsUnderway}
use Rattle.std.proofs.Common.{vec_len, eqb-true}
use Rattle.link_traces.proofs.Tracing.{batch_taken, one_taken, concluded_at_end, concluded_at_last, concluded_within_at_end, concluded_within_at_last, concluded_in_turn, taken_with_end, none_of_length}
use Rattle.link_traces.proofs.linkcheck.check_lines.Goals as goal

pub returns-then-is_empty-clause-agrees : goal.returns-then-is_empty-clause-agrees
returns-then-is_empty-clause-agrees g c =
    let none_early : c.in_ok-early.field-0 ≡ None = search rules in
    let before =
    batch_taken _ _ _ c.args.checker.now c.loop.checker c.take_batch.new.checker c.loop.invariant
    (c.in_ok-early.ensures.taken (ap Ok none_early)) in
    let input : c.in_ok-end.end ≡ Input = search rules in
    let zero : vec_len c.read.new.line ≡ 0 = eqb-true _ _ (sym c.if-is_empty.ensures) in
    let none : c.read.new.line.items ≡ [] =
    none_of_length c.read.new.line.items (sym c.read.new.line.ok.0 ∙ zero) in
    concluded_at_end c.conclude.result _ _ _ c.args.checker.now c.take_batch.new.checker c.in_ok-end.end c.read.new.line.items
    c.conclude.ensures.agrees before c.in_ok-end.ensures.taken input none
    (c.in_ok-end.ensures.end (ap Ok input))

pub returns-then-eq-3-clause-agrees : goal.returns-then-eq-3-clause-agrees
returns-then-eq-3-clause-agrees g c =
    let none_early : c.in_ok-early.field-0 ≡ None = search rules in
    let before =
    batch_taken _ _ _ c.args.checker.now c.loop.checker c.take_batch.new.checker c.loop.invariant
    (c.in_ok-early.ensures.taken (ap Ok none_early)) in
    let input : c.in_ok-end.end ≡ Input = search rules in
    let none : c.in_ok-report.field-0 ≡ None = search rules in
    concluded_at_last c.conclude-then-eq-3.result _ _ _ c.args.checker.now c.take_batch.new.checker c.take.new.self
    c.in_ok-end.end c.read.new.line.items c.conclude-then-eq-3.ensures.agrees before
    c.in_ok-end.ensures.taken input (c.in_ok-end.ensures.end (ap Ok input))
    (subst
    (λ l. (text : List ℕ) → IsUnderway text c.take_batch.new.checker → IsUnderway (text ++ (l ++ 10 ∷ [])) c.take.new.self)
    c.deref.ensures.value (c.in_ok-report.ensures.goes_on (ap Ok none)))

pub returns-then-is_empty-clause-within : goal.returns-then-is_empty-clause-within
returns-then-is_empty-clause-within g c =
    let none_early : c.in_ok-early.field-0 ≡ None = search rules in
    let before =
    batch_taken _ _ _ c.args.checker.now c.loop.checker c.take_batch.new.checker c.loop.invariant
    (c.in_ok-early.ensures.taken (ap Ok none_early)) in
    let input : c.in_ok-end.end ≡ Input = search rules in
    let zero : vec_len c.read.new.line ≡ 0 = eqb-true _ _ (sym c.if-is_empty.ensures) in
    let none : c.read.new.line.items ≡ [] =
    none_of_length c.read.new.line.items (sym c.read.new.line.ok.0 ∙ zero) in
    concluded_within_at_end c.conclude.result _ _ _ c.args.checker.now c.take_batch.new.checker c.in_ok-end.end c.read.new.line.items
    c.conclude.ensures.within before c.in_ok-end.ensures.taken input none
    (c.in_ok-end.ensures.end (ap Ok input))

pub returns-then-eq-3-clause-within : goal.returns-then-eq-3-clause-within
returns-then-eq-3-clause-within g c =
    let none_early : c.in_ok-early.field-0 ≡ None = search rules in
    let before =
    batch_taken _ _ _ c.args.checker.now c.loop.checker c.take_batch.new.checker c.loop.invariant
    (c.in_ok-early.ensures.taken (ap Ok none_early)) in
    let input : c.in_ok-end.end ≡ Input = search rules in
    let none : c.in_ok-report.field-0 ≡ None = search rules in
    concluded_within_at_last c.conclude-then-eq-3.result _ _ _ c.args.checker.now c.take_batch.new.checker c.take.new.self
    c.in_ok-end.end c.read.new.line.items c.conclude-then-eq-3.ensures.within before
    c.in_ok-end.ensures.taken input (c.in_ok-end.ensures.end (ap Ok input))
    (subst
    (λ l. (text : List ℕ) → IsUnderway text c.take_batch.new.checker → IsUnderway (text ++ (l ++ 10 ∷ [])) c.take.new.self)
    c.deref.ensures.value (c.in_ok-report.ensures.goes_on (ap Ok none)))

pub returns-then-eq-3-clause-in_turn : goal.returns-then-eq-3-clause-in_turn
returns-then-eq-3-clause-in_turn g c =
    let none_early : c.in_ok-early.field-0 ≡ None = search rules in
    let before =
    batch_taken _ _ _ c.args.checker.now c.loop.checker c.take_batch.new.checker c.loop.invariant
    (c.in_ok-early.ensures.taken (ap Ok none_early)) in
    let none : c.in_ok-report.field-0 ≡ None = search rules in
    concluded_in_turn c.conclude-then-eq-3.result c.args.checker.now c.take.new.self _
    c.conclude-then-eq-3.ensures.turn
    (c.in_ok-report.ensures.goes_on (ap Ok none) before.text before.underway)
    (c.take.ensures.turns ∙ before.turns)

pub loop-preserved : goal.loop-preserved
loop-preserved g c =
    let none_early : c.in_ok-early.field-0 ≡ None = search rules in
    let before =
    batch_taken _ _ _ c.args.checker.now c.loop.checker c.take_batch.new.checker c.loop.invariant
    (c.in_ok-early.ensures.taken (ap Ok none_early)) in
    let long : c.in_ok-end.end ≡ TooLong → ⊥ = search rules in
    let last : c.in_ok-end.end ≡ Input → ⊥ = search rules in
    let none : c.in_ok-report.field-0 ≡ None = search rules in
    one_taken _ _ _ c.args.checker.now c.take_batch.new.checker c.take.new.self c.read.new.line.items before
    (taken_with_end _ _ c.in_ok-end.end c.read.new.line.items long last c.in_ok-end.ensures.taken)
    (subst
    (λ l. (text : List ℕ) → IsUnderway text c.take_batch.new.checker → IsUnderway (text ++ (l ++ 10 ∷ [])) c.take.new.self)
    c.deref.ensures.value (c.in_ok-report.ensures.goes_on (ap Ok none))) c.take.ensures.turns

pub returns-then-is_empty-clause-in_turn : goal.returns-then-is_empty-clause-in_turn
returns-then-is_empty-clause-in_turn g c =
    let none_early : c.in_ok-early.field-0 ≡ None = search rules in
    let before =
    batch_taken _ _ _ c.args.checker.now c.loop.checker c.take_batch.new.checker c.loop.invariant
    (c.in_ok-early.ensures.taken (ap Ok none_early)) in
    concluded_in_turn c.conclude.result c.args.checker.now c.take_batch.new.checker before.text
    c.conclude.ensures.turn before.underway before.turns
