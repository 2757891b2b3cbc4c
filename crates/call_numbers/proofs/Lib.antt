-- Laws of a caller's numbers.
pub mod Numbers
pub mod Arrays
pub mod Old
