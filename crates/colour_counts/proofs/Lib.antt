-- Laws of counting, and of the counts.
pub mod Counting
pub mod Weights
pub mod Total
pub mod Worked
