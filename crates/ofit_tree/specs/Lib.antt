pub mod Entry
pub mod Tree
pub mod Level
pub mod Merge
pub mod Forest
