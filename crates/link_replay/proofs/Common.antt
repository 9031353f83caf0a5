-- The names that most proofs of this crate cite, passed on from one place. Declares nothing.
pub use Rattle.fairness.specs.Numbers.Amount.{Amount}
pub use Rattle.fairness.specs.declared.error.Error.{Error}
pub use Rattle.link_events.specs.Steps.Outgoing.{outgoing}
pub use Rattle.link_scheduler.specs.Calls.Replay.{reply_of, call_of}
pub use Rattle.link_scheduler.specs.Calls.State.{planned_of}
pub use Rattle.link_simulation.proofs.Rule.SameCourses.{obeys_same}
pub use Rattle.link_simulation.proofs.Rule.SamePlanned.{same_itself, same_turned, same_chain}
pub use Rattle.link_simulation.proofs.Rule.SameSteps.{course_went}
pub use Rattle.link_simulation.specs.Rule.Events.{Obeys}
pub use Rattle.link_simulation.specs.Rule.Planned.{Planned, new_planned}
pub use Rattle.link_simulation.specs.Rule.Refusals.{MayBeRefused}
pub use Rattle.link_simulation.specs.Rule.SamePlanned.{GoesByRule, IsSamePlanned, same_limit, same_limit_link}
pub use Rattle.link_simulation.specs.Rule.SamePlanned.{same_enqueue, same_enqueue_all, same_advance, same_next}
pub use Rattle.link_simulation.specs.Simulation.Calls.{Call}
pub use Rattle.link_simulation.specs.Simulation.Messages.{SameMessage, Message}
pub use Rattle.link_simulation.specs.Simulation.Replies.{reply_refused}
pub use Rattle.link_simulation.specs.Simulation.World.{Completed, goes}
pub use Rattle.std.proofs.Common.{refl, ◌≡◌, sym, map, [], subst, ℕ, ap, arith, ◌<◌, List, length, ◌∷◌, ◌∙◌, ◌+◌, ◌++◌}
pub use Rattle.std.proofs.Common.{◌≤◌, Option, take}
pub use Rattle.std.proofs.Math.Logic.{∥∥₁_elim}
pub use Rattle.std.proofs.lemmas.List.{length-map, map-append}
pub use Rattle.std.specs.Cmp.{IsTotalOrder}
pub use Rattle.std.specs.List.{AllZip}
pub use Rattle.std.specs.Vec.{vec_capacity, vec_len}
pub use Rattle.std.specs.declared.cmp.Ordering.{Ordering}
