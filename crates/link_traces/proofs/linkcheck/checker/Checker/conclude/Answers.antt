use Rattle.link_traces.proofs.Common.{◌≡◌, None, ap, sym, ◌∙◌, refl, ◌≤◌, subst, Within}
use Rattle.link_traces.proofs.Tracing.{is_headed, agrees_is_not_within, least_is_within}
use Rattle.link_traces.proofs.linkcheck.checker.Checker.conclude.Goals as goal
use Rattle.link_traces.proofs.linkcheck.checker.Checker.conclude.Goals.{in-None, in-Some}

pub returns-clause-agrees : goal.returns-clause-agrees
returns-clause-agrees c =
    λ is text underway.
    let verdict = ap (λ r. r.verdict) c.report-2.ensures in
    let exact : c.args.self.now.progress.off ≡ None =
    elim c.match-self.branch [
      | in-None w ↦ w.in-None.is
      | in-Some w ↦ let no = sym w.report-is ∙ sym verdict ∙ is in absurd cc
    ] in
    is_headed text c.args.self.now c.report-2.result underway (c.if-not-is_all_said.ensures.0 refl) exact
    c.if-self-eq0.false
    (ap (λ r. r.calls) c.report-2.ensures) (ap (λ r. r.completions) c.report-2.ensures)
    (ap (λ r. r.out_of_turn) c.report-2.ensures)

pub returns-clause-within : goal.returns-clause-within
returns-clause-within c =
    λ off is.
    let verdict = ap (λ r. r.verdict) c.report-2.ensures in
    elim c.match-self.branch [
      | in-None w ↦ agrees_is_not_within off (sym w.report-is ∙ sym verdict ∙ is)
      | in-Some w ↦
          subst (λ t. off ≤ t) c.unwrap_or-tolerance.ensures
          (least_is_within w.in-Some.off c.unwrap_or-tolerance.result off
          (sym (ap (λ n. Within n) w.min.ensures) ∙ sym w.report-is ∙ sym verdict ∙ is))
    ]
