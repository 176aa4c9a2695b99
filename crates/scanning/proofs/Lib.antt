pub mod Entries
pub mod Walks
pub mod Probes
pub mod Ranks
pub mod Meets
pub mod Sweeping
