mod Common
pub mod Batching
pub mod Ranges
pub mod Reading
pub mod Replying
pub mod Tracing
