pub mod Fairness
pub mod Filling
pub mod Refusals
pub mod Sides
mod Common
