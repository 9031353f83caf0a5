-- The laws of max-min fairness.
pub mod Allocation
pub mod AnswersUnderCaps
pub mod ByMembers
pub mod ClosedSides
pub mod Decided
pub mod Denominators
pub mod LastRate
pub mod MappedSides
pub mod MaxMin
pub mod OneAllocation
pub mod SameSides
pub mod SharedBeside
pub mod Sharing
pub mod WholeRates
