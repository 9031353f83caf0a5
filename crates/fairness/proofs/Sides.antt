-- From the calls of closures, flow by flow, to the sides that they make.
pub mod Alone
pub mod Answers
pub mod Callable
pub mod CapSides
pub mod EqualSubjects
pub mod NoLinks
pub mod Subjects
pub mod UserCounts
