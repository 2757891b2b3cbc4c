-- The laws.
pub mod Products
pub mod Numbers
pub mod First
pub mod Lowest
pub mod Accepted
pub mod Accepts
pub mod Plain
