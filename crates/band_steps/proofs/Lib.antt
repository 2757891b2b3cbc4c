-- Laws of the steps of a band.
pub mod Written
pub mod Places
pub mod Steps
