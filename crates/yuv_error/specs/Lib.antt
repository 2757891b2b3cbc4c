-- The refusals, as a list of rules: docs/RULES.md, chapter 7.
pub mod Numbers
pub mod Rules
pub mod Order
pub mod Lowest
pub mod Shape
pub mod Lent
pub mod Known
pub mod Checks
pub mod Texts
