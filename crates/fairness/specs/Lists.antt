-- Lists: places in them, and their order by keys.
pub mod Places
pub mod Sorted
pub mod WithoutFirst
