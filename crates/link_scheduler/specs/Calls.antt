-- How a scheduler and its calls are read, and what they promise.
pub mod Replay
pub mod State
