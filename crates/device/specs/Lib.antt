pub mod Meanings
pub mod Pieces
