-- What follows from max-min fairness alone.
pub mod Among
pub mod Apart
pub mod ById
pub mod Example
pub mod ExistUnderCaps
pub mod Order
pub mod Part
pub mod Rates
pub mod Uncapped
pub mod WithinCap
