-- What is kept between calls, what is due, and what comes of a call.
pub mod Answered
pub mod AsPlanned
pub mod Changes
pub mod Due
pub mod Landing
pub mod Marks
pub mod Outgoing
pub mod Parting
pub mod Standing
pub mod Starting
pub mod Through
