-- Laws of the places, of parts that are taken, and of whose turn it is.
pub mod Taken
pub mod Means
pub mod NextTurn
pub mod Exact
