use Rattle.link_scripts.proofs.Common.{◌≡◌, ◌+◌, ◌∷◌, ap, sym, ◌∙◌, arith, rules, take, Some, parts_of}
use Rattle.std.proofs.lemmas.List.{take_rest}
use Rattle.link_scripts.specs.Words.{parts_in}
use Rattle.link_scripts.proofs.Splitting.{one_byte_more, only_part, first_part}
use Rattle.link_scripts.proofs.linkrun.word.Words.next.Goals as goal

pub returns-then-rest-at-eq-SPACE-clause-taken : goal.returns-then-rest-at-eq-SPACE-clause-taken
returns-then-rest-at-eq-SPACE-clause-taken c =
    let line = c.in_ok-rest.rest.now in
    let at = c.loop-at.at in
    let is : c.args.self.now.rest ≡ Some c.in_ok-rest.rest = search rules in
    ap parts_in is ∙ first_part line at (omega arith) c.loop-at.invariant (search rules)
    ∙ ap (λ rest. take at line ∷ parts_of rest) (sym (take_rest line (at + 1)))

pub loop-at-preserved : goal.loop-at-preserved
loop-at-preserved c =
    one_byte_more c.in_ok-rest.rest.now c.loop-at.at (omega arith) c.loop-at.invariant (search rules)

pub returns-clause-taken : goal.returns-clause-taken
returns-clause-taken c =
    let is : c.args.self.now.rest ≡ Some c.in_ok-rest.rest = search rules in
    ap parts_in is ∙ only_part c.in_ok-rest.rest.now c.loop-at.at (omega arith) c.loop-at.invariant
