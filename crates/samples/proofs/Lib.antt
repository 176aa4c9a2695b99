pub mod Spread
pub mod OneTable
pub mod TwoRecords
pub mod Worked
