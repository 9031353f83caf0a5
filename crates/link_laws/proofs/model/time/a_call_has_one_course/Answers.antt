use Rattle.link_simulation.proofs.Common.{◌≡◌, ℕ, ◌<◌, Option, IfSome, IsQuiet, NextIs, arith}
use Rattle.link_simulation.proofs.Simulation.OtherPairs.{ends_more}
use Rattle.link_simulation.proofs.Simulation.QuietInstants.{next_is_later, call_ends_quiet, QuietAt}
use Rattle.link_simulation.proofs.Simulation.Sound.{new_world_sound, call_keeps_sound}
use Rattle.link_simulation.proofs.Simulation.OneRun.{runs_are_one}
use Rattle.link_laws.proofs.model.time.a_call_has_one_course.Goals as goal

pub returns-clause-new : goal.returns-clause-new
returns-clause-new g c = new_world_sound g.P.Ord.cmp g.met.P.Ord.total

pub returns-clause-one : goal.returns-clause-one
returns-clause-one g c = λ w call now a b sound r s. runs_are_one g.P.Ord.cmp g.met.P.Ord.total w call now a b sound r s

pub returns-clause-sound : goal.returns-clause-sound
returns-clause-sound g c = λ w call now course sound runs.
    call_keeps_sound g.P.Ord.cmp g.met.P.Ord.total w call now course sound runs

pub returns-clause-quiet : goal.returns-clause-quiet
returns-clause-quiet g c = λ w call now course quiet is after runs.
    ends_more g.P.Ord.cmp g.met.P.Ord.total (QuietAt g.P.Ord.cmp g.met.P.Ord.total now)
    (λ v. IsQuiet g.P.Ord.cmp now v × (v.moment ≡ now)
    × ((next : Option ℕ) → NextIs g.P.Ord.cmp v next → IfSome next (λ t. now < t)))
    course (λ v k. (
      k.0,
      k.1,
      grind (arith, next_is_later),
    )) (call_ends_quiet g.P.Ord.cmp g.met.P.Ord.total w call now course quiet is after runs)
