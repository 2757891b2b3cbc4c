-- Laws of digits put into a list.
pub mod Digits
