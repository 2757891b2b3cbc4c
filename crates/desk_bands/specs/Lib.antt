-- A band served from shared buffers: docs/RULES.md, 16.1 and 16.4.
pub mod Buffers
