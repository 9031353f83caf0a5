-- Sides: what closures answer for flows, and the sides that the answers make; here how the planner keeps them.
pub use Rattle.fairness.specs.Sides.Alone
pub use Rattle.fairness.specs.Sides.Answers
pub use Rattle.fairness.specs.Sides.Caps
pub use Rattle.fairness.specs.Sides.Subjects
pub mod Numbers
pub mod Registry
pub mod SideOf
