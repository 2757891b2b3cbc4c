-- Lemmas of the calls that are made of a list.
pub mod Ranges
pub mod Bytes
pub mod Crc
pub mod Digits
pub mod Made
pub mod Streams
pub mod Sources
pub mod OfSlices
pub mod Values
