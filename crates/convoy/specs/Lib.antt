-- A convoy of frames in one call.
pub mod Run
pub mod Turn
pub mod Alone
pub mod Called
