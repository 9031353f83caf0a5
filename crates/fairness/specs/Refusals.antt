-- Refusals: when rates fit, when flows are refused, and how an error reads.
pub mod ErrorTexts
pub mod FairRatesFit
pub mod TooLarge
