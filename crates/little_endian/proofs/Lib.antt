-- The laws.
pub mod Number
pub mod Stores
