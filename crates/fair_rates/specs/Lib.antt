pub use Rattle.fairness.specs.Fairness
pub use Rattle.fairness.specs.Lists
pub use Rattle.fairness.specs.Numbers
pub use Rattle.fairness.specs.Refusals
pub mod Filling
pub mod Sides
