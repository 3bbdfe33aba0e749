pub mod Runs
pub mod Rising
pub mod Rows
pub mod Values
pub mod Cover
pub mod Stacks
pub mod SmallRows
