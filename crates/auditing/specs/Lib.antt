pub mod Tables
pub mod Orders
pub mod Audits
pub mod Texts
