-- Two shift files paired: docs/RULES.md, chapter 13.
pub mod Pairs
pub mod Report
pub mod Pairing
pub mod Means
pub mod Known
