-- How many colours share a luma. `Counts` is the meaning; `Known` serves the contracts of the smaller functions.
pub mod Counts
pub mod Known
