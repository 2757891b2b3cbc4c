-- Laws of a convoy.
pub mod Calls
pub mod Walked
pub mod Lists
pub mod Turns
pub mod Kept
pub mod Alone
pub mod Outcome
pub mod Answers
