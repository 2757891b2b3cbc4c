pub mod Printed
pub mod Stored
pub mod Calls
pub mod Sources
pub mod Streams
