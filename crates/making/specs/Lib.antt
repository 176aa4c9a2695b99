pub mod Reports
pub mod Sizes
pub mod Steps
pub mod Makes
pub mod Laws
pub mod InMemory
