-- That what the planner answers is what is promised of it.
pub mod AllocatedRates
