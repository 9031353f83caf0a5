pub mod Index
pub mod Rows
pub mod Slots
