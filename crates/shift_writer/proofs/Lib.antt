-- The laws.
pub mod Count
pub mod Pairs
pub mod Answers
pub mod Lists
