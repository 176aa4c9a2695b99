pub mod Texts
pub mod Reports
pub mod Readings
pub mod Laws
pub mod Lexing
pub mod Scans
pub mod Wholes
pub mod Samples
