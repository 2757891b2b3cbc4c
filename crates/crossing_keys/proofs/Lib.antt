-- Laws of keys, and of a file with its keys.
pub mod Keyed
pub mod Places
