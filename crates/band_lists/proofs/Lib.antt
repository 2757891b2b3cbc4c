-- Demand 3, and that it speaks of something.
pub mod Accepted
pub mod Kept
pub mod Tally
pub mod Untouched
pub mod SameImage
pub mod Run
pub mod Demand3
pub mod Repainted
pub mod NotEmpty
