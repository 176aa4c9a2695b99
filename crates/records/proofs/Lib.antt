pub mod Walks
pub mod Proved
pub mod Filling
