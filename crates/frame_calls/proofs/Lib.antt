-- What these calls come to.
pub mod Answered
pub mod Lists
pub mod Counts
