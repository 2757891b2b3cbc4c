-- The laws: of a file's entries, of the loops over keys and entries, of what is built.
pub mod Entries
pub mod Loops
pub mod Built
