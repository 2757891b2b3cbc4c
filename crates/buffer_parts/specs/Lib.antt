-- Parts of a lent buffer.
pub mod Parts
