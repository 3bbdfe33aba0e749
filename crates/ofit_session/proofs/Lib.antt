pub mod Carried
mod Carrying
pub mod Refitting
pub mod Touches
pub mod Untouched
mod Changed
