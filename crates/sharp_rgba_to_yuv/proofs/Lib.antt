-- Laws of the frame call.
pub mod Accepted
pub mod Post
pub mod Strides
pub mod SameFrames
pub mod Whole
