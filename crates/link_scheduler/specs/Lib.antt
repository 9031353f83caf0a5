pub use Rattle.link_events.specs.Steps
pub use Rattle.link_flights.specs.Flights
pub use Rattle.link_pairs.specs.Pairs
pub mod Calls
