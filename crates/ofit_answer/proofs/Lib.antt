pub mod NameLines
pub mod Named
pub mod Pieces
