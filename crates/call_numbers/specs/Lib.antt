-- What a caller's numbers mean.
pub mod Codes
pub mod Old
