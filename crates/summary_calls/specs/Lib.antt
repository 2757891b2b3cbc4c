-- Building, checking and looking up: docs/RULES.md, 12.4 to 12.6.
pub mod Calls
pub mod Found
