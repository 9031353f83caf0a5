use Rattle.link_scripts.proofs.Common.{◌≡◌, ◌≤◌, length, get_or, sym, arith, rules, IsUtf8, common_steps}
use Rattle.link_scripts.proofs.Numerals.{parsed, no_sign, no_zero_in_front, unless_text}
use Rattle.link_scripts.proofs.linkrun.word.wide_number.Goals as goal

pub returns-in_err-word : goal.returns-in_err-word
returns-in_err-word c =
    let no_text : ¬ (IsUtf8 c.args.word.now) = search rules in
    rw c.from_residual.ensures (unless_text c.args.word.now no_text)

pub returns-then-starts_with : goal.returns-then-starts_with
returns-then-starts_with c =
    let text : c.in_ok-word.word.now ≡ c.args.word.now = search rules in
    rw (sym text) (λ n. grind (arith, common_steps, no_sign, no_zero_in_front))

pub returns : goal.returns
returns c =
    let text : c.in_ok-word.word.now ≡ c.args.word.now = search rules in
    let word = c.in_ok-word.word.now in
    let sign : get_or word 0 0 ≡ 43 → ⊥ = grind (arith, common_steps) in
    let plain : get_or word 0 0 ≡ 48 → length word ≤ 1 = grind (arith, common_steps) in
    rw (c.ok-2.ensures.value, sym text) (parsed word c.parse.result c.parse.ensures.value.0 sign plain)
