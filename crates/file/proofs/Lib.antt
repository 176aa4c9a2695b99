pub mod Turns
pub mod Readying
pub mod SameFiles
