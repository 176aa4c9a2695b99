pub mod MarkReports
pub mod Marks
pub mod Layers
pub mod Whole
