pub mod Fraction
pub mod Curve
pub mod Entry
pub mod FirstIndices
pub mod Codes
