-- Frame, opening, band and counts from numbers: docs/RULES.md, 10.1 to 10.4.
pub mod Calls
pub mod Lists
pub mod Counts
