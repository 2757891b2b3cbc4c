-- Laws that the proofs of several functions cite.
pub mod TwoRows
pub mod Signed
pub mod Weights
pub mod TableSums
pub mod Pairs
