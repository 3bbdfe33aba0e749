pub mod Check
pub mod Told
pub mod Peak
pub mod PeakSteps
