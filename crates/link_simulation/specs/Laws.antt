-- What follows for those who use a scheduler.
pub mod Alone
pub mod Bytes
pub mod Conserved
pub mod Isolation
pub mod MostEvents
pub mod Orderly
pub mod PairCompletions
pub mod Replies
