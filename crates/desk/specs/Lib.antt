-- The front desk: docs/RULES.md, chapter 16.
pub mod DeskCall
pub mod Told
