pub mod Living
pub mod Switched
pub mod Keeping
pub mod Founded
pub mod Proved
