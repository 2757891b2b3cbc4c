-- One picture of a Y4M file from planes.
pub mod Picture
pub mod Means
pub mod Known
