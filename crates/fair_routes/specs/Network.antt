-- Flows over routes: the sides that links make, and what is promised of their rates.
pub mod Allocation
pub mod Laws
pub mod Rising
pub mod Sides
pub mod Told
pub mod Users
pub mod WeightLaws
pub mod Weights
