pub mod Formatted
pub mod Inside
pub mod Standing
pub mod Held
pub mod Clearing
pub mod Ruled
