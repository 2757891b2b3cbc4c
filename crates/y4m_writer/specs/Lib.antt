-- Writing a Y4M file.
pub mod Text
pub mod Pictures
pub mod Writing
pub mod Means
pub mod Known
