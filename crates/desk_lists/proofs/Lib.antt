-- No camera waits long, and each is converted as if it were alone; and these claims speak of something.
pub mod Slots
pub mod Fairness
pub mod Bands
pub mod Apart
pub mod Kept
pub mod Isolation
pub mod OwnBands
pub mod CanServe
pub mod NotEmpty
pub mod ThirtyOne
pub mod WholeFrame
pub mod FromNumbers
pub mod Overlaps
