-- One record from planes.
pub mod Record
pub mod Known
