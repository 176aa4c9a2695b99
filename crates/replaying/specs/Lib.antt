pub mod Beds
pub mod Turning
pub mod Replays
pub mod Runs
