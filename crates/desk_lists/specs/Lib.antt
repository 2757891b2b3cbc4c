-- What is claimed of every list of the desk's calls: docs/RULES.md, 16.5 and 16.6.
pub mod DeskLists
pub mod Isolation
pub mod FromNumbers
