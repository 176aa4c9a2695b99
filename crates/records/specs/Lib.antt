pub mod Readings
pub mod Laws
pub mod Steps
