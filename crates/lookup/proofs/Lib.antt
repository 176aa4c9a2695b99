pub mod Kept
pub mod Pieces
pub mod Placed
pub mod One
