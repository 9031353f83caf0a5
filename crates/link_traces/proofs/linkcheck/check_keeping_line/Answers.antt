use Rattle.link_traces.proofs.Common.{◌≡◌, ℕ, IfOk, IfSome, None, ap, subst, IsAgreed, IsAllowed}
use Rattle.link_traces.specs.declared.linkcheck.Turns.TheVariants as ways
use Rattle.link_traces.specs.declared.linkcheck.report.Verdict.TheVariants as verdicts
use Rattle.link_traces.proofs.Reading.{new_reader}
use Rattle.link_traces.proofs.linkcheck.check_keeping_line.Goals as goal

pub returns-clause-agrees : goal.returns-clause-agrees
returns-clause-agrees g c =
    let same =
    new_reader (λ i. g.R.Read.remaining i.now) c.in-Ok.reader _
    (ap (λ i. g.R.Read.remaining i.now) c.in-Ok.ensures.inner) c.in-Ok.ensures.empty
    c.in-Ok.ensures.capacity in
    subst
    (λ k. IfOk c.check_lines.result (λ report. report.verdict ≡ verdicts.Agrees
    → IfSome k (λ bytes. IsAgreed bytes report))) same c.check_lines.ensures.agrees

pub returns-clause-within : goal.returns-clause-within
returns-clause-within g c =
    let same =
    new_reader (λ i. g.R.Read.remaining i.now) c.in-Ok.reader _
    (ap (λ i. g.R.Read.remaining i.now) c.in-Ok.ensures.inner) c.in-Ok.ensures.empty
    c.in-Ok.ensures.capacity in
    subst
    (λ k. IfOk c.check_lines.result (λ report. (off : ℕ) → report.verdict ≡ verdicts.Within off
    → IfSome k (λ bytes. IsAllowed bytes off))) same c.check_lines.ensures.within

pub returns-clause-in_turn : goal.returns-clause-in_turn
returns-clause-in_turn g c =
    subst
    (λ way. IfOk c.check_lines.result (λ report. way ≡ ways.InTurn → report.verdict ≡ verdicts.Agrees
    → report.out_of_turn ≡ None)) c.new-checker.ensures.turns c.check_lines.ensures.in_turn
