-- Where two planes differ: docs/RULES.md, 13.3.
pub mod Difference
