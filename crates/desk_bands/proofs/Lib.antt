-- Laws of a band call on parts of the buffers.
pub mod Parts
pub mod Right
