-- What the event rule and the simulation have in common, for laws alone.
pub mod NewInRange
pub mod NoNumbers
