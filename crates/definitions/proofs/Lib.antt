-- Laws of the definitions: callers use these, and not the definitions' text.
pub mod Parts
pub mod Painted
pub mod Planes
pub mod Numbers
pub mod Finished
pub mod SameRows
pub mod SameImages
pub mod Bands
pub mod Windows
pub mod Pixel
pub mod Inputs
pub mod Flat
pub mod Worked
