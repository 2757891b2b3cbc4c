-- Laws: of one grey pixel, of chroma inputs, of images and of planes; and a worked line.
pub mod Pixel
pub mod Inputs
pub mod Planes
pub mod Worked
