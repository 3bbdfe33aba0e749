pub mod Chain
pub mod Stretch
pub mod Covers
pub mod Stacked
