-- Look-ups by peer and by ordered pair.
pub mod ByNumber
pub mod Entries
pub mod KnownPairs
pub mod LookedUp
pub mod PairOrder
pub mod PeerCaps
