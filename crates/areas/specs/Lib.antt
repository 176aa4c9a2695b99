pub mod Geometry
pub mod Roots
pub mod Steps
