pub mod Finding
pub mod Leaving
pub mod Nexts
pub mod Popping
pub mod Slots
mod Common
