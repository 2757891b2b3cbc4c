-- The program's request.
pub mod Request
pub mod Packed
pub mod Reply
