-- The shift file: docs/RULES.md, chapter 11.
pub mod File
pub mod Read
pub mod Check
pub mod Means
