-- Where fair rates fit, each is a fraction of 128 bits, and where one is none, no rates that are such fractions are
-- fair.
pub mod Fitting
