-- Records in order of their crossings: docs/RULES.md, 12.4 and 13.1.
pub mod Keys
