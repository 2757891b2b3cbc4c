-- Laws of parts.
pub mod Tests
pub mod Parts
