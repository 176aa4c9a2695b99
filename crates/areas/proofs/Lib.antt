pub mod Rooted
pub mod Named
