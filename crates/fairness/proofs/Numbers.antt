-- Fractions, ratios and amounts: values, when they fit, and how an amount drains.
pub mod Draining
pub mod EqualAmounts
pub mod Fits
pub mod LeastTime
pub mod Ratio
pub mod Transfer
