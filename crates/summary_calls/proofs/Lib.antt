-- The laws of looking up.
pub mod Found
