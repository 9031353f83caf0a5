use Rattle.link_traces.proofs.Common.{rules, ◌≡◌, ◌<◌, arith, refl}
use Rattle.link_traces.proofs.Batching.{batch_goes_on}
use Rattle.link_traces.proofs.linkcheck.checker.Checker.send.Goals as goal

pub returns-then-eq-clause-silent : goal.returns-then-eq-clause-silent
returns-then-eq-clause-silent c =
    λ is text underway.
    let some : 0 < c.saturating_add-self.result = search rules in
    batch_goes_on c.args.self.now _ text _
    (λ said told. c.in_ok-sent.ensures.silent is said told c.requires.none_due) refl refl
    c.send.ensures.turn (λ e. let zero : c.saturating_add-self.result ≡ 0 = e in omega (arith, zero, some)) underway
