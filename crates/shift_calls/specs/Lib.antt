-- Shift files, summaries and pairs from numbers: docs/RULES.md, 10.5 to 10.7.
pub mod Shift
pub mod Summary
pub mod Pairs
