pub mod Factorial
pub mod Orderings
pub mod Level
pub mod LevelText
