-- Where one fair rate is no fraction of 128 bits, no rates that are such fractions are fair.
pub mod NoFairRates
