pub mod Entries
pub mod Closes
pub mod Builds
pub mod Empty
