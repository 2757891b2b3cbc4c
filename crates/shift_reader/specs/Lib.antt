-- Reading a shift file.
pub mod Entry
pub mod Reading
pub mod Known
