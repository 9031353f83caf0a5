mod Fairness
mod Network
mod Refusals
mod Common
