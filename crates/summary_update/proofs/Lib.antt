-- The laws of a file that grows, and of an update as it is told.
pub mod Grown
pub mod Told
pub mod Summaries
