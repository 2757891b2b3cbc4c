-- Settings as numbers.
pub mod Codes
