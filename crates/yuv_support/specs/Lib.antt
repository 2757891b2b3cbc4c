-- The settings, as definitions.
pub mod Channels
pub mod Sampling
pub mod Range
pub mod Matrix
pub mod Codes
