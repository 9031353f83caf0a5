use Rattle.link_traces.proofs.Common.{◌≡◌, ◌++◌, ◌∷◌, [], IfSome, arith, refl, sym, subst, ◌∙◌, tolerance_line}
use Rattle.link_traces.proofs.Tracing.{goes_on, sets_tolerance}
use Rattle.link_traces.proofs.linkcheck.checker.Checker.take.Goals as goal

pub returns-in-Some-clause-goes_on : goal.returns-in-Some-clause-goes_on
returns-in-Some-clause-goes_on c =
    λ is text underway.
    let says : c.args.line.now ++ 10 ∷ [] ≡ tolerance_line c.in-Some.tolerance =
    subst (λ a. IfSome a (λ n. c.args.line.now ++ 10 ∷ [] ≡ tolerance_line n)) c.in-Some.is c.in_ok-tolerance.ensures in
    sets_tolerance c.args.self.now _ c.args.line.now text c.in-Some.tolerance c.if-first.true says refl refl refl
    (λ e. let zero : c.next_number-self.result ≡ 0 = e in omega (arith, zero, c.next_number-self.ensures)) underway

pub returns-clause-goes_on : goal.returns-clause-goes_on
returns-clause-goes_on c =
    λ is text underway.
    goes_on c.args.self.now c.compare.new.self c.args.line.now text (c.compare.ensures.goes_on is)
    c.compare.ensures.same.turns c.compare.ensures.same.tolerance
    (λ e. let zero : c.next_number-self.result ≡ 0 = sym c.compare.ensures.same.lines ∙ e in
    omega (arith, zero, c.next_number-self.ensures)) underway
