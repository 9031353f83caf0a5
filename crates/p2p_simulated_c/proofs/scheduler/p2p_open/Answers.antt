use Rattle.p2p_simulated_c.proofs.Common.{Some, inl, refl, ap, ◌∙◌}
use Rattle.p2p_simulated_c.proofs.scheduler.p2p_open.Goals as goal

pub returns-in-Ok : goal.returns-in-Ok
returns-in-Ok c =
    inl (
      refl,
      c.new.result,
      c.of.ensures ∙ ap Some c.in-Ok.ensures.ok,
      c.new.ensures.state,
      c.new.ensures.completed,
      c.new.ensures.last,
    )
