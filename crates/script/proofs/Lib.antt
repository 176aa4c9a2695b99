pub mod Reading
pub mod Numbers
pub mod Sayings
pub mod Counted
