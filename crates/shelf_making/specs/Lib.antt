pub mod Reports
pub mod Refusals
pub mod Adding
pub mod Ending
pub mod Makes
pub mod Laws
