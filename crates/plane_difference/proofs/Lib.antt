-- Laws of how far two planes are equal, by bytes and by numbers of several, and of rows; what a place means that is told.
pub mod Front
pub mod First
