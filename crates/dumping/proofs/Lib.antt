pub mod Walked
pub mod Dumped
