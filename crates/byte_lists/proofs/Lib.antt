pub mod Parts
pub mod Laid
pub mod Words
