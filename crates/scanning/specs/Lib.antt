pub mod Headers
pub mod Searches
pub mod Sweeps
