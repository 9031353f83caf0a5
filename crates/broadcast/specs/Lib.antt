pub mod Chance
pub mod Lines
pub mod Links
