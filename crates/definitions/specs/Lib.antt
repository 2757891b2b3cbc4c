-- What the bytes of the planes are: of a pixel, of a row, of an image; planes with some of their rows written; what a band of rows leaves.
pub mod Pixel
pub mod Row
pub mod Image
pub mod Painted
pub mod Plane
pub mod Bands
