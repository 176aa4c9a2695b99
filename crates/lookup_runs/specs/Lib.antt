pub mod Datas
pub mod Runs
pub mod Laws
