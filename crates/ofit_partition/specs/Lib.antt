pub mod Piece
pub mod Cut
pub mod Work
