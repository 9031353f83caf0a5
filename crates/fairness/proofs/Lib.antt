pub mod Fairness
pub mod Filling
pub mod Lists
pub mod Numbers
pub mod Refusals
pub mod Sides
mod Common
