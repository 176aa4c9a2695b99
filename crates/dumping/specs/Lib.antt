pub mod Dumps
pub mod Walks
