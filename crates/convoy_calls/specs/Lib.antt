-- A convoy from numbers.
pub mod Numbers
pub mod Calls
