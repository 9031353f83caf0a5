-- From the steps of the code to calls by the event rule, and to what they promise.
pub mod Answered
pub mod Concluded
pub mod OneByOne
pub mod Promises
pub mod Replay
