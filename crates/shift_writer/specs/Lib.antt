-- Writing a shift file.
pub mod Records
pub mod Output
pub mod Writing
pub mod Known
