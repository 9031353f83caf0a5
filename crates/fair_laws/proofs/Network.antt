-- What follows for the rates of flows over routes.
pub mod Alone
pub mod Apart
pub mod Copied
pub mod Peers
pub mod Relabelled
pub mod Reordered
pub mod WeightLaws
