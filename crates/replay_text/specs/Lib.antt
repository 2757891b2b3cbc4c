-- The requests of a text, and what is printed of them.
pub mod Lines
