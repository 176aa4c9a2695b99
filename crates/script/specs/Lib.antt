pub mod Reasons
pub mod Words
pub mod Sayings
pub mod Scripts
pub mod Telling
