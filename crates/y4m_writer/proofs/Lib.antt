-- Laws of writing a Y4M file.
pub mod Decimal
pub mod Puts
pub mod Frames
pub mod Back
pub mod Sizes
pub mod Sides
pub mod Whole
