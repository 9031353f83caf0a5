use Rattle.link_simulation.proofs.Common.{sym, ◌∙◌}
use Rattle.link_simulation.proofs.Laws.Bytes.{advance_loses}
use Rattle.link_laws.proofs.model.runs.an_origin_keeps_to_its_cap.Goals as goal

pub returns : goal.returns
returns g c = λ w v p cap now cs sound is runs.
    (advance_loses g.P.Ord.cmp g.met.P.Ord.total p cap w v now cs runs
    (record { positive = sound.positive; egress = λ q e. sym (sound.caps.egress p q e) ∙ is })).bytes
