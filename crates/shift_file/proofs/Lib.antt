-- The laws.
pub mod Products
pub mod Record
pub mod Walk
pub mod File
