-- Laws of sizes and of the difference of two records; what it means that there is none, a place, or two sizes.
pub mod Compared
pub mod Equal
pub mod First
