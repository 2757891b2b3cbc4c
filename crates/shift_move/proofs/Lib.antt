-- The laws.
pub mod Moved
pub mod Files
pub mod Steps
