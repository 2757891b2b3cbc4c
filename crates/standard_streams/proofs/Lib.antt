-- A reply to what was read.
pub mod Replied
