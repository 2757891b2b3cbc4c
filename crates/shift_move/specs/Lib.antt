-- A shift file moved to the other form: docs/RULES.md, 11.8.
pub mod Move
pub mod Moving
pub mod Means
