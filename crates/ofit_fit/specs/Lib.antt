pub mod Part
pub mod OrderOf
pub mod Compose
pub mod Links
pub mod Put
pub mod Piece
pub mod Counted
pub mod Direct
