mod Common
pub mod CapAnswers
pub mod Columns
pub mod Digits
pub mod InTurn
pub mod LinkCaps
pub mod LookingUp
pub mod Numerals
pub mod Printing
pub mod Reading
pub mod Saying
pub mod Scheduling
pub mod Splitting
pub mod Turns
pub mod Wording
