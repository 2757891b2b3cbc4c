-- The frames of a convoy.
pub mod Parts
