-- The laws: of entries in bytes, of runs of them, of their order and of one more.
pub mod Entry
pub mod Order
pub mod Placing
