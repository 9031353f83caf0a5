-- Filling: the flows rise together, and the users of a side that is full stay where they are.
pub mod Frozen
