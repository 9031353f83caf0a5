use Rattle.link_traces.proofs.Common.{[], refl}
use Rattle.link_traces.proofs.linkcheck.checker.Checker.new.Goals as goal

pub returns-clause-new : goal.returns-clause-new
returns-clause-new c =
    record { trace = []; after = refl; told = c.new.ensures.told; first = λ e. (refl, refl); in_turn = λ e. c.new.ensures.in_turn }
