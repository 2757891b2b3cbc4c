-- The places of the front desk: docs/RULES.md, chapter 16.
pub mod Places
pub mod Means
