pub mod Files
pub mod Given
pub mod PeakGiven
pub mod Ready
pub mod Stops
pub mod Fitting
