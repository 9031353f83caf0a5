pub mod Idle
mod Common
