-- Y4M files by numbers.
pub mod Calls
