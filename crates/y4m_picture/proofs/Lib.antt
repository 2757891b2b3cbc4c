-- The laws.
pub mod Checked
pub mod Made
pub mod Append
