pub mod Lists
pub mod Senders
pub mod Trunks
pub mod Worlds
