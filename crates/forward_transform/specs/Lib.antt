-- The forward transform, as definitions: `Rounding` and `Transform` are the meaning, `Small` and `Shape` serve proofs.
pub mod Rounding
pub mod Transform
pub mod Small
pub mod Shape
