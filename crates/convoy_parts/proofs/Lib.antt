-- Laws of the frames of a convoy.
pub mod Broken
