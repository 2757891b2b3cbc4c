-- A summary after one record more: docs/RULES.md, 12.7.
pub mod Update
pub mod Summaries
