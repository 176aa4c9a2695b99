pub mod Keys
pub mod Probes
pub mod Nexts
pub mod Searches
pub mod Starts
pub mod Fetches
pub mod OneAnswer
