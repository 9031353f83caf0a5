use Rattle.link_traces.proofs.Common.{refl, sym, subst, ap, ◌∙◌, IsTold}
use Rattle.link_traces.proofs.linkcheck.checker.Checker.compare.Goals as goal

pub returns-then-hear-clause-goes_on : goal.returns-then-hear-clause-goes_on
returns-then-hear-clause-goes_on c = λ is. (c.if-hear.ensures.heard refl, λ strict was. c.hear.ensures.turn ∙ was)

pub returns-then-hear_nearly-clause-goes_on : goal.returns-then-hear_nearly-clause-goes_on
returns-then-hear_nearly-clause-goes_on c =
    let kept = c.hear.ensures.kept c.if-hear.false in
    λ is. (
      λ said before. c.if-hear_nearly.ensures.heard refl said (subst (IsTold said) (sym kept) before),
      λ strict was. c.hear_nearly.ensures.turn ∙ (ap (λ p. p.out_of_turn) kept ∙ was),
    )
