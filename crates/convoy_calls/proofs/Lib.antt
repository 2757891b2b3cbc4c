-- Laws of the frames of a convoy from numbers.
pub mod Made
pub mod Frames
