pub mod Ends
pub mod Pairs
pub mod Peers
