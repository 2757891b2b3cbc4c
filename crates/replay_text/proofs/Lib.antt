-- Lemmas of the lines, their requests and their calls.
pub mod Again
pub mod Cuts
pub mod Made
pub mod Opened
pub mod Stars
