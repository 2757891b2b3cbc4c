-- The laws.
pub mod Rows
pub mod Unpadded
pub mod Made
