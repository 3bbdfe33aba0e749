pub mod Fittable
pub mod Balanced
pub mod StatedLosses
