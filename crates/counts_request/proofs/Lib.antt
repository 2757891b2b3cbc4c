-- Laws of requests.
pub mod Decimal
pub mod Lines
pub mod Puts
pub mod Reply
pub mod Worked
