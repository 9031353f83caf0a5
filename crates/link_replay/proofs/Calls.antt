-- Replies to the calls of a list, one after another.
pub mod Replay
