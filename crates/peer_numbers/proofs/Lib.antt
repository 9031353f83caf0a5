pub mod EndPlaces
pub mod OrderedPairs
pub mod Peers
