-- The messages that wait, the idle pairs in the order of moments, and which of them are ready.
pub mod Due
pub mod DueCounts
pub mod DueMessages
pub mod FirstStart
pub mod Index
pub mod IndexChanges
pub mod Moved
pub mod Numbered
pub mod Ready
pub mod Slots
pub mod Stands
pub mod Starting
pub mod Told
pub mod View
pub mod Waiting
