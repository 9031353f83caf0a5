use Rattle.link_traces.proofs.Common.{refl}
use Rattle.link_traces.proofs.Tracing.{told_nothing}
use Rattle.link_traces.proofs.linkcheck.progress.Progress.new.Goals as goal

pub returns-clause-told : goal.returns-clause-told
returns-clause-told c =
    told_nothing _ c.new.ensures.items c.with_payload.ensures.new.planned c.with_payload.ensures.new.stands refl refl refl
