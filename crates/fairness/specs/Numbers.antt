-- Numbers: fractions, ratios and amounts, when they fit, and how an amount drains.
pub mod Amount
pub mod Draining
pub mod Fits
pub mod Fraction
pub mod FractionOrder
pub mod Gcd
pub mod LowestTerms
pub mod OneValue
pub mod Ratio
