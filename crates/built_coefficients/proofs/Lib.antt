-- Laws.
pub mod AsComputed
pub mod Shapes
pub mod Worked
