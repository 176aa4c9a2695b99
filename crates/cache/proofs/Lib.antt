pub mod Paging
pub mod Changing
