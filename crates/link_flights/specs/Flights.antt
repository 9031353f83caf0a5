-- What is in flight: how it is kept, changed and read.
pub mod Components
pub mod Flight
pub mod InFlight
pub mod LargerUnits
pub mod Loose
pub mod Rate
pub mod Rated
pub mod RatedFlights
pub mod Readings
pub mod Rows
pub mod Sides
pub mod Table
