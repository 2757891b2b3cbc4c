-- The proofs of the demands.
pub mod ConvoyTold
pub mod DeskTold
pub mod Demands
pub mod Grey
pub mod Counts
pub mod ShiftFiles
pub mod ShiftSummaries
pub mod ShiftPairs
pub mod ShiftMoves
pub mod Y4mParts
pub mod Y4mFiles
pub mod Convoys
pub mod Desks
