-- Why filling finds the fair rates.
pub mod Account
pub mod Alone
pub mod Course
pub mod Fractions
pub mod Growing
pub mod Levels
pub mod Queue
pub mod Rates
pub mod Share
pub mod Steps
