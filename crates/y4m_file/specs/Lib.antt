-- The Y4M file: docs/RULES.md, chapter 14.
pub mod File
pub mod Check
pub mod Read
pub mod Means
pub mod Known
