pub mod Batches
pub mod Checker
pub mod Lines
pub mod Progress
pub mod Trace
pub mod Turns
