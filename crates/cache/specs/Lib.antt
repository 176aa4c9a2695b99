pub mod Pages
pub mod Caches
