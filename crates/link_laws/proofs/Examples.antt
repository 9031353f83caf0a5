-- Worked examples, found by computing.
pub mod ComputedDifferences
pub mod ComputedReplies
pub mod ComputedRule
pub mod ComputedSteps
pub mod LongRow
