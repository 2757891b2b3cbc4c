-- What an opening and a band call promise: docs/RULES.md, chapter 8.
pub mod BandCall
pub mod Same
