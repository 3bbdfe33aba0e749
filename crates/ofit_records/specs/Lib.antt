pub mod Records
pub mod Coming
pub mod Written
pub mod Writing
