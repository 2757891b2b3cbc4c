-- Laws of the desk as numbers.
pub mod Copied
pub mod Again
pub mod Decoded
