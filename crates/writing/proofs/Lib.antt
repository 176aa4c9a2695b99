pub mod Keeping
pub mod Running
pub mod Zeroed
pub mod Recorded
