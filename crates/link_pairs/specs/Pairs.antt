-- What is known of peers and of ordered pairs of them, and their messages.
pub mod CapsOf
pub mod Entries
pub mod Messages
pub mod PeerCaps
pub mod Room
