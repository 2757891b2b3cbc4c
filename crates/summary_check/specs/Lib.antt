-- The check of a summary: docs/RULES.md, 12.5.
pub mod Check
