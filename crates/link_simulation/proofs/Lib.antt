pub mod Laws
pub mod Rule
pub mod Simulation
pub mod Common
