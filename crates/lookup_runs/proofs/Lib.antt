pub mod Held
pub mod Walking
pub mod Stepping
pub mod Giving
