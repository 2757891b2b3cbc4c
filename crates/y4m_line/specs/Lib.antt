-- A line of a Y4M file: docs/RULES.md, chapter 14.
pub mod Line
pub mod Words
pub mod Header
pub mod Found
