pub mod Records
pub mod Tables
pub mod Files
pub mod Rules
pub mod Verdicts
pub mod Theorems
