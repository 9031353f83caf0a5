-- Max-min fairness: what it is, and what follows from it.
pub mod Allocation
pub mod AllocationUnderCaps
pub mod Example
pub mod Exists
pub mod Fair
pub mod Laws
pub mod Part
pub mod Rates
pub mod UnderCaps
