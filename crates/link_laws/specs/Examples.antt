-- Words for worked examples.
pub mod Rows
