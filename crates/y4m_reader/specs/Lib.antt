-- Reading a Y4M file.
pub mod Entry
pub mod Reading
pub mod Known
