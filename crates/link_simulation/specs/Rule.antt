-- The event rule: the planned world, its steps, and how it stands for the simulation.
pub mod Events
pub mod Leaving
pub mod Planned
pub mod Range
pub mod Refusals
pub mod SamePlanned
pub mod Simulated
pub mod StandsFor
