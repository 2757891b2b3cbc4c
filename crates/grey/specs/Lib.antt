-- Grey images, and planes that are grey.
pub mod Grey
