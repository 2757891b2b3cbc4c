-- How near the weights are to the exact ones: `Exact` is what exact weights are, `Near` what is promised of every accepted pair.
pub mod Exact
pub mod Near
