-- What these calls come to.
pub mod Shift
pub mod Summary
pub mod Pairs
