-- Laws of the Y4M file.
pub mod Sizes
pub mod Count
pub mod Pictures
pub mod File
pub mod Whole
