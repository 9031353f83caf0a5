pub mod Flights
mod Common
