-- What follows for those who use a scheduler.
pub mod Alone
pub mod DoneAlone
pub mod FewerEvents
