-- The mean of a luma plane: docs/RULES.md, 12.2.
pub mod Mean
