pub mod Writings
pub mod Outcomes
pub mod Sheets
