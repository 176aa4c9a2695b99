pub mod Memories
pub mod Writing
