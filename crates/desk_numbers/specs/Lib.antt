-- The front desk as numbers: docs/RULES.md, 10.10.
pub mod Numbers
pub mod Lent
