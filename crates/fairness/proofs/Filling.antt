-- Why filling finds the fair rates.
pub mod FairPartsExist
pub mod Frozen
pub mod LeastShare
pub mod NextLevel
pub mod Rounds
pub mod States
pub mod WholeParts
