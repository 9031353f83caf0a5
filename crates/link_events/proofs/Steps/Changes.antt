-- What a call does at its moment.
use Rattle.link_events.proofs.Common.{◌≡◌, ℕ, List, Some, refl}
use Rattle.link_simulation.specs.Simulation.Calls.{moment_of}
use Rattle.link_events.specs.declared.change.Change.{Change}
use Rattle.link_events.specs.declared.change.Change.TheVariants.{Advance}
use Rattle.link_events.specs.Steps.Changes.{call_at}

pub moment_at : {P M : Type 0} (bytes : M → List ℕ) (now : ℕ) (change : Change P M)
    → moment_of (call_at bytes now change) ≡ Some now
moment_at bytes now Advance = refl
moment_at bytes now change = refl
