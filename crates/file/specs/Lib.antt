pub mod Ranges
pub mod Extents
pub mod ReadableFiles
