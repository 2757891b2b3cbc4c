-- Laws.
pub mod Accepted
