mod Computed
mod Place
mod Order
mod Rise
mod Table
mod Filled
pub mod Largest
pub mod Meaning
pub mod Bounds
pub mod Worked
