use Rattle.fair_rates.proofs.Common.{◌≡◌, ◌+◌, ◌-◌, length, rules, arith, subst, sym, ap, ◌∙◌, common_steps, is_lt}
use Rattle.fair_rates.proofs.Common.{IsGap}
use Rattle.std.proofs.lemmas.List.Sorted.{answers_always}
use Rattle.fairness.proofs.Lists.Sorted.{searched, is_lt_less}
use Rattle.fair_rates.proofs.Sides.Numbers.{after_last}
use Rattle.fair_rates.proofs.bandwidth.numbers.Numbers.search.Goals as goal

pub returns-then-is_lt-clause-absent : goal.returns-then-is_lt-clause-absent
returns-then-is_lt-clause-absent g c =
    let cmp = g.K.Ord.cmp in
    let key = c.args.key.now in
    let entries = c.args.self.now.listed.items in
    let count = c.len-count.result in
    let all : count ≡ length entries = c.len-count.ensures ∙ c.args.self.now.listed.ok.0 in
    let end : (count - 1) + 1 ≡ length entries = grind (arith, common_steps, c.if-count-gt0.true) in
    subst (IsGap cmp (λ entry. entry.0) entries key) (sym all)
    (after_last cmp g.met.K.Ord.total entries key c.index.result.now (count - 1) c.requires end c.index.ensures
    (is_lt_less _ (ap is_lt (sym c.cmp.ensures) ∙ sym c.is_lt.ensures ∙ c.if-is_lt.true)))

pub returns-clause-found : goal.returns-clause-found
returns-clause-found g c =
    let cmp = g.K.Ord.cmp in
    let key = c.args.key.now in
    rw (← c.deref.ensures.value) (searched cmp g.met.K.Ord.total (λ entry. entry.0) c.deref.result.now key _
    (rw c.deref.ensures.value c.requires)
    c.binary_search_by_key.ensures.bound (c.binary_search_by_key.ensures.position (λ entry. entry.0)
    (answers_always _ _ _ (λ f a r f' called. search rules)))).found

pub returns-clause-absent : goal.returns-clause-absent
returns-clause-absent g c =
    let cmp = g.K.Ord.cmp in
    let key = c.args.key.now in
    rw (← c.deref.ensures.value) (searched cmp g.met.K.Ord.total (λ entry. entry.0) c.deref.result.now key _
    (rw c.deref.ensures.value c.requires)
    c.binary_search_by_key.ensures.bound (c.binary_search_by_key.ensures.position (λ entry. entry.0)
    (answers_always _ _ _ (λ f a r f' called. search rules)))).absent
