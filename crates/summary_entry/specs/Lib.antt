-- The entries of a summary: docs/RULES.md, chapter 12.
pub mod Entry
pub mod Order
pub mod Grown
