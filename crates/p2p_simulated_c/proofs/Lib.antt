mod Common
pub mod Boxed
pub mod Copying
pub mod Ending
pub mod Hops
pub mod Planning
pub mod Turns
