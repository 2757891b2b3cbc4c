-- The report of two shift files by numbers: docs/RULES.md, 10.7.
pub mod Numbers
