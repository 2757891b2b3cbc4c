-- The laws.
pub mod Places
pub mod Entries
pub mod Post
pub mod Files
