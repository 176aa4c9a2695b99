pub mod InMemory
pub mod Exports
