-- The simulation, nanosecond by nanosecond: messages, rates, time, calls and replies.
pub mod Calls
pub mod Messages
pub mod Pass
pub mod Queue
pub mod Rates
pub mod RefusalCauses
pub mod Replies
pub mod Time
pub mod World
