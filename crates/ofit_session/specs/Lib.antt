pub mod Fitted
pub mod Refit
pub mod CountsAtMost
