use Rattle.fair_rates.proofs.Common.{◌≡◌, ◌<◌, Some, ap, sym, ◌∙◌, get_or, length, arith, lookup, option_or, is_eq}
use Rattle.fair_rates.proofs.Common.{Equal, get_or_default}
use Rattle.std.proofs.lemmas.Bool.{ltb-true}
use Rattle.fairness.proofs.Lists.Sorted.{is_eq_equal}
use Rattle.fair_rates.proofs.Sides.Numbers.{at_place, stands}
use Rattle.fair_rates.proofs.bandwidth.numbers.Numbers.number_at.Goals as goal

pub returns-in-Some : goal.returns-in-Some
returns-in-Some g c =
    let cmp = g.K.Ord.cmp in
    let key = c.args.key.now in
    let numbers = c.args.self.now in
    let entries = numbers.listed.items in
    let entry = c.in-Some.entry.now in
    let later = lookup (λ other. is_eq (cmp key other)) numbers.later.entries in
    let all : c.deref.result.now ≡ entries = c.deref.ensures.value in
    let within : c.args.place < length entries =
    let it = ltb-true c.args.place (length c.deref.result.now) (sym c.in-Some.ensures.lookup.0) in
    omega (arith, it, ap length all) in
    let is : entry ≡ get_or entries c.args.place entry =
    c.in-Some.ensures.lookup.1 ∙ ap (λ es. get_or es c.args.place entry) all in
    let same : cmp entry.0 key ≡ Equal =
    is_eq_equal _ (ap is_eq (sym c.cmp.ensures) ∙ sym c.is_eq.ensures ∙ c.if-is_eq.true) in
    ap (λ found. option_or found later) (at_place cmp g.met.K.Ord.total entries key c.args.place entry
    (stands cmp g.met.K.Ord.total entries key c.args.place c.requires within
    (λ d. ap (λ e. cmp e.0 key) (get_or_default entries c.args.place d entry within ∙ sym is) ∙ same))
    ∙ ap (λ e. Some e.1) (sym is))
