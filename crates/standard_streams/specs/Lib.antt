-- What is printed of a failure.
pub mod Failures
