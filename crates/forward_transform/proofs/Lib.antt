-- Laws: of the rounding, of sums of weights, and from one f32 operation up to the weights of every accepted pair.
pub mod Rounding
pub mod WholePart
pub mod Signed
pub mod Sums
pub mod Units
pub mod Operations
pub mod Weight
pub mod Pair
pub mod Triples
pub mod Computed
