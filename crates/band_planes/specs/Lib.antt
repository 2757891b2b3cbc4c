-- What serves the contracts of a band's rows: the meaning stands in definitions.
pub mod Rows
