-- Laws of the desk's calls.
pub mod Given
pub mod Right
