pub mod Network
mod Common
