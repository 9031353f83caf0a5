use Rattle.fair_rates.proofs.Common.{Some, ap, sym, ◌∙◌, lookup, option_or, is_eq}
use Rattle.fair_rates.proofs.Sides.Numbers.{at_place, in_gap}
use Rattle.fair_rates.proofs.bandwidth.numbers.Numbers.find.Goals as goal

pub returns-in-Ok-clause-number : goal.returns-in-Ok-clause-number
returns-in-Ok-clause-number g c =
    let cmp = g.K.Ord.cmp in
    let key = c.args.key.now in
    let numbers = c.args.self.now in
    let later = lookup (λ other. is_eq (cmp key other)) numbers.later.entries in
    ap (λ entry. Some entry.1) c.index.ensures ∙ sym (ap (λ found. option_or found later)
    (at_place cmp g.met.K.Ord.total numbers.listed.items key c.in-Ok.place c.index.result.now c.in-Ok.ensures.found))

pub returns-in-Err-clause-number : goal.returns-in-Err-clause-number
returns-in-Err-clause-number g c =
    let cmp = g.K.Ord.cmp in
    let key = c.args.key.now in
    let numbers = c.args.self.now in
    let later = lookup (λ other. is_eq (cmp key other)) numbers.later.entries in
    c.copied.ensures ∙ c.get.ensures.value ∙ sym (ap (λ found. option_or found later)
    (in_gap cmp g.met.K.Ord.total numbers.listed.items key c.in-Err.place c.in-Err.ensures.absent))
