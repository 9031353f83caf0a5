use Rattle.link_scripts.proofs.Common.{◌≡◌, ◌+◌, ◌*◌, [], ◌∷◌, get_or, ap, sym, subst, ◌∙◌, arith, rules}
use Rattle.link_scripts.proofs.Common.{parts_of, digit_value, take_all}
use Rattle.std.proofs.lemmas.List.{take_rest}
use Rattle.link_scripts.specs.Words.{parts_in}
use Rattle.link_scripts.proofs.Splitting.{only_part, first_part}
use Rattle.link_scripts.proofs.Digits.{AreRead, one_more, below_power, lack_spaces, word_read}
use Rattle.link_scripts.proofs.linkrun.word.Words.short_number.Goals as goal

pub returns-in_default-clause-taken : goal.returns-in_default-clause-taken
returns-in_default-clause-taken c =
    let l = c.loop-at in
    let line = c.in_ok-line.line.now in
    let read = l.invariant.0 in
    let space : get_or line l.at 0 ≡ 32 = search rules in
    let word = word_read line l.at l.number read (omega arith) (omega arith) (search rules) in (
      ap parts_in c.in_ok-line.was ∙ first_part line l.at (omega arith) (lack_spaces line l.at l.number read) space
          ∙ (λ i. word i ∷ parts_of (sym (take_rest line (l.at + 1)) i)),
      omega (arith, below_power line l.at l.number read 19 (omega arith)),
    )

pub overflow_mul-number : goal.overflow_mul-number
overflow_mul-number c =
    let l = c.loop-at in
    omega (arith, below_power c.in_ok-line.line.now l.at l.number l.invariant.0 18 (omega arith))

pub overflow_add-number : goal.overflow_add-number
overflow_add-number c =
    let l = c.loop-at in
    omega (
      arith,
      c.from.ensures,
      c.in-Some.ensures.value,
      below_power c.in_ok-line.line.now l.at l.number l.invariant.0 18 (omega arith),
    )

pub loop-at-preserved : goal.loop-at-preserved
loop-at-preserved c =
    let l = c.loop-at in
    let line = c.in_ok-line.line.now in
    let digit = c.in-Some.ensures.value in
    let is : l.number * 10 + digit_value (get_or line l.at 0) ≡ l.number * 10 + c.from.result =
    omega (arith, digit.1, c.from.ensures) in (
      subst (AreRead line (l.at + 1)) is (one_more line l.at l.number l.invariant.0 (omega arith) digit.0),
      l.invariant.1,
    )

pub returns-clause-taken : goal.returns-clause-taken
returns-clause-taken c =
    let l = c.loop-at in
    let line = c.in_ok-line.line.now in
    let read = l.invariant.0 in
    let word = word_read line l.at l.number read (omega arith) (omega arith) (search rules) in (
      ap parts_in c.in_ok-line.was ∙ only_part line l.at (omega arith) (lack_spaces line l.at l.number read)
          ∙ ap (λ w. w ∷ []) (sym (take_all l.at line (omega arith)) ∙ word),
      omega (arith, below_power line l.at l.number read 19 (omega arith)),
    )
