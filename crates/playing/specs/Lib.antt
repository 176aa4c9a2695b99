pub mod Steps
pub mod Made
pub mod Runs
pub mod Laws
