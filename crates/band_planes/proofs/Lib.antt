-- Laws of the rows of a band.
pub mod Walked
