pub mod Whole
pub mod Stores
