pub mod Callers
pub use Rattle.fairness.proofs.Sides.Callable
