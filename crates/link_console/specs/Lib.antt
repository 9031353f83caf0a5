pub mod Note
pub mod Printable
