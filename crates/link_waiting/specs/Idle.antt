-- The messages that wait; and the idle pairs, and when each may start.
pub mod AtRest
pub mod Departed
pub mod FirstMoment
pub mod Index
pub mod PairsOfMessages
pub mod Slots
pub mod Starting
pub mod Waits
