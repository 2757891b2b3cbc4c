-- The summary of a shift file: docs/RULES.md, chapter 12.
pub mod Summary
pub mod Built
