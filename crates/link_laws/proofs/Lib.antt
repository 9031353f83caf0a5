mod Examples
mod Laws
mod Rule
mod Simulation
