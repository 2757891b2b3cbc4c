-- What is claimed of every list of band calls: docs/RULES.md, 8.9.
pub mod BandLists
