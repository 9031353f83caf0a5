-- The names that most proofs of this crate cite, passed on from one place. Declares nothing.
pub use Rattle.fairness.specs.declared.error.Error.{Error}
pub use Rattle.link_events.proofs.Steps.Settling.{if_ok}
pub use Rattle.link_events.specs.Steps.Answered.{IsAnswered}
pub use Rattle.link_events.specs.Steps.AsPlanned.{planned}
pub use Rattle.link_pairs.proofs.Pairs.LookedUp.{looked_up, arrivals_looked_up}
pub use Rattle.link_pairs.specs.Pairs.Messages.{completed_by}
pub use Rattle.link_scheduler.specs.Calls.State.{planned_of, Makes}
pub use Rattle.link_scheduler.specs.declared.transmitter.State.{State}
pub use Rattle.link_simulation.proofs.Laws.Orderly.{obeys_orderly}
pub use Rattle.link_simulation.proofs.Rule.SameCourses.{obeys_same}
pub use Rattle.link_simulation.proofs.Rule.SamePlanned.{same_itself, same_turned, same_chain}
pub use Rattle.link_simulation.proofs.Rule.SameSteps.{course_went}
pub use Rattle.link_simulation.specs.Laws.Orderly.{IsOrderly}
pub use Rattle.link_simulation.specs.Rule.Events.{Obeys}
pub use Rattle.link_simulation.specs.Rule.Planned.{Planned, IsPlanned, new_planned}
pub use Rattle.link_simulation.specs.Rule.Refusals.{MayBeRefused}
pub use Rattle.link_simulation.specs.Rule.SamePlanned.{GoesByRule, IsSamePlanned}
pub use Rattle.link_simulation.specs.Simulation.Calls.{Call, call_advance, moment_of, call_enqueue_all}
pub use Rattle.link_simulation.specs.Simulation.Messages.{CapsAlike, PairsAlike, Message}
pub use Rattle.link_simulation.specs.Simulation.Replies.{reply_refused}
pub use Rattle.link_simulation.specs.Simulation.World.{Completed, goes}
pub use Rattle.std.proofs.Common.{refl, ◌≡◌, sym, map, [], subst, ℕ, ap, arith, ◌<◌, List, length, ◌∷◌, ◌∙◌, ◌+◌, ◌^◌}
pub use Rattle.std.proofs.Common.{◌++◌, ◌≤◌, Some, ◌≢◌, Option, rules}
pub use Rattle.std.proofs.Math.Logic.{∥∥₁_map, ∥∥₁_elim}
pub use Rattle.std.proofs.lemmas.List.{length-map}
pub use Rattle.std.specs.Cmp.{IsTotalOrder}
pub use Rattle.std.specs.List.{AllZip}
pub use Rattle.std.specs.declared.cmp.Ord.{Ghosts}
pub use Rattle.std.specs.declared.cmp.Ordering.{Ordering}
