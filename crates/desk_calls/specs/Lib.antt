-- The front desk's calls from numbers: docs/RULES.md, 10.10.
pub mod Calls
