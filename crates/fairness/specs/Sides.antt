-- Sides: what closures answer for flows, and the sides that the answers make.
pub mod Alone
pub mod Answers
pub mod Caps
pub mod Subjects
