-- The difference of two records: docs/RULES.md, 13.2 and 13.3.
pub mod Record
