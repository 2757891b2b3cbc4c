-- The frame call.
pub mod FrameCall
pub mod Same
