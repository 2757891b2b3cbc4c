-- Laws: what f32 does exactly, a weight and a quotient next to exact ones, and what is promised of every accepted pair.
pub mod Powers
pub mod Thresholds
pub mod Weighing
pub mod Close
pub mod Quotient
pub mod Chroma
pub mod Near
