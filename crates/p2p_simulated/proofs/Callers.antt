-- What callers cite in their proofs: that closures may be called, and that they answer by caps.
pub use Rattle.fairness.proofs.Sides.Callable.{callable_on_each, callable_on_each_pair}
pub use Rattle.fairness.proofs.Sides.Answers.{answers_if_unchanged, pair_answers_if_unchanged}
