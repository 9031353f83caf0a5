-- Filling: the states between its rounds, and the parts that it finds.
pub use Rattle.fairness.specs.Filling.Frozen
pub mod CountedRates
pub mod FairParts
pub mod States
