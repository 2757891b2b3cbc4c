-- Laws of reading a Y4M file.
pub mod Places
pub mod Entries
pub mod Said
pub mod Files
