-- Flows over routes: from their links to the sides, and what follows for their rates.
pub mod Allocation
pub mod ByWeight
pub mod LinkSides
pub mod Rising
pub mod Said
pub mod Sides
pub mod Told
pub mod Users
pub mod WeightedMaxMin
pub mod WeightedRates
