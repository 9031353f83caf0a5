pub mod Badness
