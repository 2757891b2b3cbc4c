-- What the contracts of rows need beside the definitions: no meaning stands here.
pub mod Weights
pub mod Tables
pub mod Pixels
pub mod Rows
