-- What serves the contracts of a band's steps: the meaning stands in definitions.
pub mod Steps
