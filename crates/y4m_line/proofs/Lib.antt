-- Laws of lines.
pub mod Words
pub mod Chains
pub mod Text
pub mod Decimal
pub mod Tags
pub mod Says
pub mod Header
pub mod Examples
