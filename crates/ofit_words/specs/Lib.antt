pub mod Commands
pub mod Values
pub mod Given
pub mod Read
pub mod Words
pub mod JobLimits
pub mod Judged
pub mod Made
