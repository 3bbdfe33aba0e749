pub mod Sides
pub mod Values
pub mod FirstFit
pub mod Leaving
pub mod Turned
