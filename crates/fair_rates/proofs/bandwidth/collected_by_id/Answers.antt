use Rattle.std.proofs.lemmas.Slice.Zip.{Zip-more, either_empty_from_Zip}
use Rattle.std.proofs.lemmas.Map.{update_all_push}
use Rattle.std.specs.Map.{update_all}
use Rattle.std.specs.Ordering.{eq_by_cmp}
use Rattle.std.specs.BTreeMap.{get}
use Rattle.std.proofs.lemmas.Iterator.Adapters.{YieldsList-from_vec, fact_from_collect}
use Rattle.fair_rates.proofs.Common.{◌≡◌, Ok, arith, ap, refl, sym, ◌∙◌, ℕ, nat_cmp, None, Option, Rate}
use Rattle.fairness.proofs.Fairness.LastRate.{stored, all_stored}
use Rattle.fair_rates.proofs.bandwidth.collected_by_id.Goals as goal

pub loop-flow-preserved : goal.loop-flow-preserved
loop-flow-preserved g c id =
    let turn =
    Zip-more c.loop-flow.flow-iterator c.next.new.self c.next.result (c.in-Some.flow, c.in-Some.rate) c.in-Some.is
    c.next.ensures.steps in
    let pairs = c.loop-flow.pairs.items in
    let none : ℕ → Option Rate = λ _. None in
    let pushed =
    ap (λ xs. update_all (eq_by_cmp nat_cmp) none xs id) c.in_ok-push.ensures.items
    ∙ sym (update_all_push (eq_by_cmp nat_cmp) none (update_all (eq_by_cmp nat_cmp) none pairs) pairs
    (c.in-Some.flow.now.id, c.in-Some.rate.now) id refl) in
    stored id c.in-Some.flow.now c.in-Some.rate.now _ _ _ _ _ _ _ turn.0 turn.1 pushed (c.loop-flow.invariant id)

pub returns-clause-by_id : goal.returns-clause-by_id
returns-clause-by_id g c id =
    let stored_all =
    all_stored id _ _ _ _
    (either_empty_from_Zip c.loop-flow.flow-iterator c.next.new.self c.next.result c.in-None.is c.next.ensures.steps)
    (c.loop-flow.invariant id) in
    let made = c.in_ok-from_iter.ensures.ran in
    fact_from_collect {E = ℕ} (λ xs n. get nat_cmp n id ≡ update_all (eq_by_cmp nat_cmp) (λ _. None) xs id)
    (Ok c.in_ok-from_iter.field-0) (made.1, made.3, made.4.0 id)
    (YieldsList-from_vec c.loop-flow.pairs.items made.2.0 (omega (arith, made.2.1)))
    ∙ stored_all
